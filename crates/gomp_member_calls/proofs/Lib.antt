pub mod AnsweredAtOnce
