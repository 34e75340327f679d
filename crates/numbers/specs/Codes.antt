-- Document 01's table and document 02: the number that each word of the code's type stands for, and what a call that is done or
-- refused tells.
--     code n      the number of the word n
--     told r      0 where r is done, whatever it gives; else the number of its refusal
-- Assumes nothing.
use Rattle.std.specs.Prelude.{ℕ, Result, Ok, Err}
use Rattle.numbers.specs.declared.Number.{Number}
use Rattle.numbers.specs.declared.Number.TheVariants.{Unsound, NoSuchPlace, Field, Gapped, Elsewhere, InUse, Twins, Inactive, Violated, NotPrimary, NotReferenced, OldPassword, Present, Absent, Short, NoRoom, Spent, ListLength, Link, Loop, Empty, Frozen, Whole, Apart, Length}

abbrev pub code : Number → ℕ
code Unsound = 1
code NoSuchPlace = 2
code Field = 3
code Gapped = 4
code Elsewhere = 5
code InUse = 6
code Twins = 7
code Inactive = 8
code Violated = 9
code NotPrimary = 10
code NotReferenced = 11
code OldPassword = 12
code Present = 13
code Absent = 14
code Short = 15
code NoRoom = 16
code Spent = 17
code ListLength = 18
code Link = 19
code Loop = 20
code Empty = 21
code Frozen = 22
code Whole = 23
code Apart = 24
code Length = 25

abbrev pub told : {T : Type 0} → Result T Number → ℕ
told (Ok x) = 0
told (Err n) = code n
