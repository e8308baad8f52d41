-- The words of actions that proofs open.
unfoldable pub use Rattle.al_core.specs.Action.{bind, pure}
