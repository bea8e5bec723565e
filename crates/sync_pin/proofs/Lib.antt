mod AskLemmas
mod EventLemmas
mod PinLemmas
mod ShowLemmas
