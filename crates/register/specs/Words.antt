-- Document 02, §9, in words: what becomes of an entry, for every conversion f, every handle h that is supplied and all bytes e.
--     MadeInWords            supplied: zero stands for the handle supplied
--                            parent: an entry comes from what became of the one that it was weakened from, by its own mask; so
--                            steps go from the handle supplied downwards, and a failure is handed on
--                            link, loop: 19 just where the way meets a missing entry, 20 just where it comes round
--     StepNumbers            where the handle supplied has a width, names a place that there is and is ungapped, an entry's number is
--                            0, 19, 20, 21 or 17
--     Kept e k m i           each mask of the m entries on the way from entry k keeps segment i
--     EntrysHandle           what the handle g of entry k is: of the name and the width of the handle supplied; ungapped; its
--                            way ends at zero; it references exactly the segments that the handle supplied references and
--                            every mask on the way keeps, and at least one
--     OpensAsSupplied        where the handle supplied opens a cluster from a primary password, so does every entry's handle
--     LowestFails            t tells the lowest entry that fails: it does with the number told, and none below it; and 0 is
--                            told, with entry 0, only where none fails
--     SameButPassword h h'   the two handles differ in the password alone
--     FreeOfPasswords, Free  which entries fail, with what number, and which open a segment depends neither on the conversion
--                            nor on the password of the handle supplied
--     OwnWay                 what becomes of an entry is the same in two registers of as many entries that agree on the entries on
--                            its way, as long as it is on entries: no other entry plays a part
-- Assumes nothing.
use Rattle.std.specs.Prelude.{ℕ, suc, ◌≤◌, ◌<◌, ◌≡◌, ◌≢◌, ◌⊎◌, ◌↔◌, Bool, true, false, List}
use Rattle.bits.specs.Sets.{has}
use Rattle.chain.specs.Way.{reached}
use Rattle.chain.specs.Means.{IsRecord, OnRecords, Whole, Leaves, Again}
use Rattle.handle.specs.declared.Handle.{Handle}
use Rattle.handle.specs.Selectors.{references, gapped}
use Rattle.handle.specs.Handles.{Name, name_of, width_of, no_width, no_such_place}
use Rattle.handle.specs.Opens.{Opens}
use Rattle.register.specs.Registers.{Told}
use Rattle.register.specs.Registers.{entries, parent_of, mask_of, given, stepped, made, lowest, openers_up_to}

abbrev pub Kept : List ℕ → ℕ → ℕ → ℕ → Type 0
Kept e k m i = (j : ℕ) → j < m → has i (mask_of e (reached (parent_of e) k j)) ≡ true

pub record EntrysHandle (h : Handle) (e : List ℕ) (k : ℕ) (g : Handle) : Type 0 where
  pub named : name_of g ≡ name_of h
  pub width : g.width ≡ h.width
  pub ungapped : gapped (width_of h) g.selector ≡ false
  pub met : ℕ
  pub way : Whole (entries e) (parent_of e) k met
  pub refers : (i : ℕ) → i < width_of h
      → (references g.selector i ≡ true) ↔ ((references h.selector i ≡ true) × Kept e k met i)
  pub segment : ℕ
  pub below : segment < width_of h
  pub some : references g.selector segment ≡ true

pub record SameButPassword (h h' : Handle) : Type 0 where
  pub node : h.node ≡ h'.node
  pub local : h.local ≡ h'.local
  pub width : h.width ≡ h'.width
  pub selector : h.selector ≡ h'.selector

module _ (f : Name → List ℕ → ℕ → List ℕ) where
  pub record MadeInWords (h : Handle) (e : List ℕ) : Type 0 where
    pub supplied : made f h e 0 ≡ given h
    pub parent : (k : ℕ) → IsRecord (entries e) k → made f h e k ≡ stepped f (made f h e (parent_of e k)) (mask_of e k)
    pub link : (k : ℕ) → ((made f h e k).number ≡ 19) ↔ Leaves (entries e) (parent_of e) k
    pub loop : (k : ℕ) → ((made f h e k).number ≡ 20) ↔ Again (entries e) (parent_of e) k

  abbrev pub StepNumbers : Type 0
  StepNumbers =
      (h : Handle) (e : List ℕ) → no_width h ≡ false → no_such_place h ≡ false → gapped (width_of h) h.selector ≡ false → (k : ℕ)
      → ((made f h e k).number ≡ 0)
      ⊎ ((made f h e k).number ≡ 19)
      ⊎ ((made f h e k).number ≡ 20)
      ⊎ ((made f h e k).number ≡ 21)
      ⊎ ((made f h e k).number ≡ 17)

  abbrev pub EntrysHandles : Type 0
  EntrysHandles =
      (h : Handle) (e : List ℕ) (k : ℕ) (g : Handle) → IsRecord (entries e) k → made f h e k ≡ given g → EntrysHandle h e k g

  abbrev pub OpensAsSupplied : Type 0
  OpensAsSupplied =
      (w : ℕ) (n : Name) (p : List ℕ) (r : ℕ → Bool) (h : Handle) (e : List ℕ) (k : ℕ) (g : Handle)
      → Opens w (f n) n p r h → made f h e k ≡ given g → Opens w (f n) n p (references g.selector) g

  pub record LowestFails (h : Handle) (e : List ℕ) (t : Told) : Type 0 where
    pub done : t.number ≡ 0 → (k : ℕ) → IsRecord (entries e) k → (made f h e k).number ≡ 0
    pub entry : t.number ≢ 0 → IsRecord (entries e) t.entry
    pub its : t.number ≢ 0 → (made f h e t.entry).number ≡ t.number
    pub below : (k : ℕ) → 1 ≤ k → k < t.entry → (made f h e k).number ≡ 0
    pub none : t.number ≡ 0 → t.entry ≡ 0

  abbrev pub OwnWay : Type 0
  OwnWay =
      (h : Handle) (e e' : List ℕ) (k : ℕ) → entries e ≡ entries e'
      → ((i : ℕ) → OnRecords (entries e) (parent_of e) k (suc i)
      → (parent_of e (reached (parent_of e) k i) ≡ parent_of e' (reached (parent_of e) k i))
      × (mask_of e (reached (parent_of e) k i) ≡ mask_of e' (reached (parent_of e) k i)))
      → made f h e k ≡ made f h e' k

pub record FreeOfPasswords (f g : Name → List ℕ → ℕ → List ℕ) (h h' : Handle) (e : List ℕ) : Type 0 where
  pub number : (k : ℕ) → (made f h e k).number ≡ (made g h' e k).number
  pub selector : (k : ℕ) → (made f h e k).handle.selector ≡ (made g h' e k).handle.selector
  pub told : lowest f h e ≡ lowest g h' e
  pub openers : (segment n : ℕ) → openers_up_to f h e segment n ≡ openers_up_to g h' e segment n

abbrev pub Free : (Name → List ℕ → ℕ → List ℕ) → (Name → List ℕ → ℕ → List ℕ) → Type 0
Free f g = (h h' : Handle) (e : List ℕ) → SameButPassword h h' → FreeOfPasswords f g h h' e
