-- Handles and replies written out: bytes and zeros by numbers, and no name of the definitions that make them.
--     sixteen b             sixteen bytes b
--     handle v l b s        the bytes of a handle: the node v below 256, the local number l, sixteen bytes b, and the two,
--                           four or eight bytes s
--     primary v l b         of 23 bytes, with all four bytes of the selector 255
--     small, large          of 21 and of 27 bytes, with all two and all eight 255
--     reply b               what a reply holds of a handle: its bytes, zeros up to 27, and their length
--     none                  the bytes of no handle, of which a reply holds 27 zeros and the length 0
--     told n a b c l bs     a reply: the number, the first handle, the second, the count, the length and the buffer; no bytes
--                           are shown
--     shows n bs            the reply of a look: the number and the bytes shown
-- Assumes nothing.
use Rattle.std.specs.Prelude.{ℕ, ◌-◌, List, [], ◌∷◌, ◌++◌, length, replicate}
use Rattle.handle.specs.declared.HandleBytes.{HandleBytes}
use Rattle.calls.specs.Steps.{Reply}

abbrev pub sixteen : ℕ → List ℕ
sixteen b = replicate 16 b

abbrev pub handle : ℕ → ℕ → ℕ → List ℕ → List ℕ
handle v l b s = 0 ∷ v ∷ l ∷ (sixteen b ++ s)

abbrev pub primary : ℕ → ℕ → ℕ → List ℕ
primary v l b = handle v l b (255 ∷ 255 ∷ 255 ∷ 255 ∷ [])

abbrev pub small : ℕ → ℕ → ℕ → List ℕ
small v l b = handle v l b (255 ∷ 255 ∷ [])

abbrev pub large : ℕ → ℕ → ℕ → List ℕ
large v l b = handle v l b (255 ∷ 255 ∷ 255 ∷ 255 ∷ 255 ∷ 255 ∷ 255 ∷ 255 ∷ [])

abbrev pub none : List ℕ
none = []

abbrev pub reply : List ℕ → HandleBytes
reply b = record { length = length b; bytes = b ++ replicate (27 - length b) 0 }

abbrev pub told : ℕ → List ℕ → List ℕ → ℕ → ℕ → List ℕ → Reply
told n a b c l bs = record { number = n; first = reply a; second = reply b; count = c; length = l; buffer = bs; shown = [] }

abbrev pub shows : ℕ → List ℕ → Reply
shows n bs = record { number = n; first = reply none; second = reply none; count = 0; length = 0; buffer = []; shown = bs }
