-- The lemmas that other crates may cite, by their subjects. All else in proofs/ is this crate's own.
-- The roles of a name tell whether it is an operator's.
pub use Rattle.name_syntax.proofs.Roles.{roles_tell}
