-- Ranges as they are posted, each behind its target.
pub use Rattle.product_bool.specs.Posts.{pairs_of, indexicals, Posts, Accepted}
