mod HistoryLemmas
mod LineLemmas
mod LookLemmas
mod RunLemmas
mod ScriptLemmas
mod SentLemmas
mod StepsLemmas
