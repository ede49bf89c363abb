pub mod PpmLemmas
