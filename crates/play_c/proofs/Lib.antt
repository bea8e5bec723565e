mod CallLemmas
mod Form
