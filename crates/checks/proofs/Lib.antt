mod FirstForm
