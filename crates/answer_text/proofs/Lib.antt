mod JoinedTexts
mod VariableNumbers
mod PendingVariables
mod Sets
mod Texts
mod Summaries
