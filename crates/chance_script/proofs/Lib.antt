pub mod HappeningLemmas
