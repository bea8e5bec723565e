mod Acked
mod Exact
mod Retries
mod Shown
