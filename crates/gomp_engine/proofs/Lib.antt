pub mod LawRefutations
pub mod Laws
mod SettingLemmas
mod SizeLemmas
