mod JoinedTexts
mod SlotNodes
pub mod Lemmas
