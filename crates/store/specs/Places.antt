-- The place of a segment, and what a search for a base finds, as the code has them: an `Option` each.
--     Place             absent, `None`, or present: a span of a node's memory
--     present_at b l    present with the base b and the length l
--     Found             the base found, or `None` where there is none
-- Assumes nothing.
use Rattle.std.specs.Prelude.{ℕ, Option}
pub use Rattle.std.specs.Prelude.{None, Some}
use Rattle.store.specs.declared.Span.{Span}

abbrev pub Place : Type 0
Place = Option Span

abbrev pub present_at : ℕ → ℕ → Place
present_at base length = Some (record { base = base; length = length })

abbrev pub Found : Type 0
Found = Option ℕ
