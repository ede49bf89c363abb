pub mod AnswerLemmas
pub mod LineLemmas
pub mod BehindLemmas
pub mod FeedLemmas
pub mod PieceLemmas
pub mod TalkLemmas
