pub mod Refuting
pub mod Choosing
pub mod MemoLemmas
pub mod SharedLemmas
pub mod Keeping
pub mod Crosses
