-- Document 01, "Selector and placement examples": P1 to P14, with P5 as document 02, §1, has it, as one list, for any
-- conversion f, any passwords, and any mask where document 01 names none. The rows on selectors and on placement are
-- those of the handle and the store crate; P5, P6, P8 and P13 stand there as answers, and here once more as the numbers
-- that whole calls get.
--     Question            what is asked of a selector, of placement, or the number of a call on a store
--     Told                what is told
--     Example, tells      a question and what is told; what the definitions tell
--     shown ss            the bytes of the handle of node 0 and local number 2 with the selector ss, its password zero
--     weakening m ss      call 7 with the mask m and a handle with the selector ss
--     making n            call 3 for n bytes on node 0, with the write primary handle of local number 2
--     answers             P1 to P14
--     weakenings, full    the numbers of P5, P6 and P8, and of P13
--     examples            the list
-- Assumes nothing.
use Rattle.std.specs.Prelude.{ℕ, List, [], ◌∷◌, ◌++◌, map, replicate}
use Rattle.sizes.specs.Sizes.{memory, password_bytes}
use Rattle.handle.specs.Selectors.{flats}
use Rattle.handle.specs.declared.Width.TheVariants.{Eight}
use Rattle.handle.specs.Handles.{Name, encoded}
use Rattle.handle.specs.Examples as S
use Rattle.store.specs.declared.Store.{Store}
use Rattle.store.specs.Placement.{Placed}
use Rattle.store.specs.Examples as P
use Rattle.calls.specs.Calls.{Call, making_segment, weakening_by}
use Rattle.calls.specs.Numbers.{number}

pub data Question : Type 0 where
  selecting : S.Question → Question
  placing : P.Example → Question
  numbering : Call → Store → ℕ → Question

pub data Told : Type 0 where
  selected : S.Told → Told
  placed : Placed → Told
  refused : ℕ → Told

pub record Example : Type 0 where
  pub asked : Question
  pub told : Told

abbrev asks : Question → Told → Example
asks q a = record { asked = q; told = a }

abbrev shown : List ℕ → List ℕ
shown ss = encoded (record { node = 0; local = 2; password = replicate password_bytes 0; width = Eight; selector = ss })

abbrev pub weakening : ℕ → List ℕ → Call
weakening mask ss = weakening_by mask (shown ss)

abbrev pub making : ℕ → Call
making size = making_segment 0 0 size (shown (flats 8))

module _ (f : Name → List ℕ → ℕ → List ℕ) (password first : List ℕ) (mask : ℕ) (s : Store) (size : ℕ) where
  -- P1 to P9
  abbrev selectors : List Example
  selectors =
      map (λ (e : S.Example). asks (selecting e.asked) (selected e.told))
      (S.examples (f (record { node = 0; local = 2 })) password first mask)

  -- P10 to P14
  abbrev places : List Example
  places = map (λ (e : P.Example). asks (placing e) (placed e.told)) P.examples

  abbrev pub answers : List Example
  answers = selectors ++ places

  -- whatever the store
  abbrev pub weakenings : List Example
  weakenings =
      asks (numbering (weakening 0 (0xfe ∷ 0x7d ∷ 0xff ∷ 0xff ∷ [])) s size) (refused 21)
      ∷ asks (numbering (weakening mask (0xff ∷ 0xfe ∷ 0xff ∷ 0xff ∷ [])) s size) (refused 4)
      ∷ asks (numbering (weakening 239 (0xfe ∷ 0xfd ∷ 0xfb ∷ 0xf7 ∷ [])) s size) (refused 17)
      ∷ []

  abbrev pub full : List Example
  full = asks (numbering (making 3937) P.two_segments memory) (refused 16) ∷ []

  unfoldable pub examples : List Example
  examples = answers ++ weakenings ++ full

  unfoldable pub tells : Question → Told
  tells (selecting q) = selected (S.tells (f (record { node = 0; local = 2 })) password first mask q)
  tells (placing e) = placed (P.tells e)
  tells (numbering x s size) = refused (number f x s size)
