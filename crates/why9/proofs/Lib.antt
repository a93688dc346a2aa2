pub mod OneContradiction
pub mod QuestionLemmas
pub mod SearchLemmas
pub mod ShowLemmas
pub mod Words
