mod NoopLemmas
mod DiskLemmas
