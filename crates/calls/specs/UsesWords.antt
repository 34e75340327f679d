-- Document 01, "The calls": which arguments each call goes by, with calls 10 and 11, the look and the width of document 02, in
-- the documents' own words and kind by kind. `uses` (Calls) is not looked at.
--     Argument           what a call may carry, by name: `node` is the current node, `taken` the handle, `other` the second
--                        one of a join, `first` and `second` the passwords, `bytes` a read's buffer or a write's data
--     Same a g h         the arguments g and h have the same a
--     Agree l g h        and the same of each of l
--     GoesBy f k l       calls of the kind k that agree in l have equal steps on every copy: nothing else that they carry
--                        counts, not for the number, not for what is given or left
--     UsesInWords f      the table, a line for each call
-- Assumes nothing.
use Rattle.std.specs.Prelude.{◌≡◌, ℕ, List, [], ◌∷◌}
use Rattle.handle.specs.Handles.{Name}
use Rattle.calls.specs.Calls.{Copy, Arguments, Kind, call}
use Rattle.calls.specs.Calls as kinds
use Rattle.calls.specs.Steps.{step}

pub data Argument : Type 0 where
  node local width mode segment size mask taken other first second bytes : Argument

abbrev pub Same : Argument → Arguments → Arguments → Type 0
Same node g h = g.current ≡ h.current
Same local g h = g.local ≡ h.local
Same width g h = g.width ≡ h.width
Same mode g h = g.mode ≡ h.mode
Same segment g h = g.segment ≡ h.segment
Same size g h = g.size ≡ h.size
Same mask g h = g.mask ≡ h.mask
Same taken g h = g.handle ≡ h.handle
Same other g h = g.other ≡ h.other
Same first g h = g.first ≡ h.first
Same second g h = g.second ≡ h.second
Same bytes g h = g.bytes ≡ h.bytes

abbrev pub Agree : List Argument → Arguments → Arguments → Type 0
Agree [] g h = Unit {0}
Agree (a ∷ l) g h = Same a g h × Agree l g h

module _ (f : Name → List ℕ → ℕ → List ℕ) where
  abbrev pub GoesBy : Kind → List Argument → Type 0
  GoesBy k l = (g h : Arguments) (c : Copy) → Agree l g h → step f (call k g) c ≡ step f (call k h) c

  pub record UsesInWords : Type 0 where
    -- 1: a current node, where the cluster is made, its local number, its width and two passwords
    pub new_cluster : GoesBy kinds.new_cluster (node ∷ local ∷ width ∷ first ∷ second ∷ [])
    -- 2, 3, 4 and 10: a current node and a write primary handle; a segment; its size
    pub delete_cluster : GoesBy kinds.delete_cluster (node ∷ taken ∷ [])
    pub new_segment : GoesBy kinds.new_segment (node ∷ segment ∷ size ∷ taken ∷ [])
    pub delete_segment : GoesBy kinds.delete_segment (node ∷ segment ∷ taken ∷ [])
    pub freeze : GoesBy kinds.freeze (node ∷ segment ∷ taken ∷ [])
    -- 5 and 6, from any node: a segment, a handle, and the buffer or the data
    pub read : GoesBy kinds.read (segment ∷ taken ∷ bytes ∷ [])
    pub write : GoesBy kinds.write (segment ∷ taken ∷ bytes ∷ [])
    -- 7: a mask and a handle
    pub weaken : GoesBy kinds.weaken (mask ∷ taken ∷ [])
    -- 8, validation, 9 and 11, from any node: a mode and a handle; a new password; a second handle
    pub reduce : GoesBy kinds.reduce (mode ∷ taken ∷ [])
    pub validate : GoesBy kinds.validate (mode ∷ taken ∷ [])
    pub new_password : GoesBy kinds.new_password (mode ∷ taken ∷ first ∷ [])
    pub join : GoesBy kinds.join (mode ∷ taken ∷ other ∷ [])
    -- a look: a current node, a segment and a handle
    pub look : GoesBy kinds.look (node ∷ segment ∷ taken ∷ [])
