pub mod Subjects
pub mod Answers
pub mod Valid
pub mod Fresh
pub mod Shares
