-- §7 of handles that are not primary, in a cluster of each width v: the copies are those of `Uses`, and the passwords an open
-- conversion's. Handles and answers are written out.
--     lowest, both       the selectors of segment 0 alone, and of it and the highest one
--     made s c           the bytes of a handle of the cluster with the selector s, and what f makes of the write password with c
--     shown s c          the same with sixteen bytes of that password
--     cuts, cut_answers   the write handle weakened to the highest segment; with what is given, and its like for segment 0, a reduction
--                        and a join for writing, and a write
--     CutUses            what §7 gives of that list
-- Assumes nothing.
use Rattle.std.specs.Prelude.{◌≡◌, ℕ, List, [], ◌∷◌, ◌++◌, get_or}
use Rattle.loops.specs.Tabulate.{tabulate}
use Rattle.handle.specs.Handles.{Name}
use Rattle.calls.specs.Calls.{Call, weakening_by, reducing, joining, writing}
use Rattle.calls.specs.Steps.{Reply, run}
use Rattle.calls.specs.Literals.{sixteen, none, told}
use Rattle.isolation.specs.UseLists.{Wide, of_four, of_eight, of_sixteen, own, keeping}
use Rattle.isolation.specs.ValidationUses.{parameter, selector}

abbrev pub lowest : Wide → List ℕ
lowest of_four = 241 ∷ 255 ∷ []
lowest of_eight = 1 ∷ 255 ∷ 255 ∷ 255 ∷ []
lowest of_sixteen = 0 ∷ 1 ∷ 255 ∷ 255 ∷ 255 ∷ 255 ∷ 255 ∷ 255 ∷ []

abbrev pub both : Wide → List ℕ
both of_four = 249 ∷ 255 ∷ []
both of_eight = 129 ∷ 255 ∷ 255 ∷ 255 ∷ []
both of_sixteen = 128 ∷ 1 ∷ 255 ∷ 255 ∷ 255 ∷ 255 ∷ 255 ∷ 255 ∷ []

-- the parameter that keeps both
abbrev pub pair : Wide → ℕ
pair of_four = 9
pair of_eight = 129
pair of_sixteen = 32769

module _ (f : Name → List ℕ → ℕ → List ℕ) where
  abbrev pub turned : ℕ → List ℕ
  turned c = f (record { node = 3; local = 7 }) (sixteen 34) c

  abbrev pub made : List ℕ → ℕ → List ℕ
  made s c = 0 ∷ 3 ∷ 7 ∷ (turned c ++ s)

  abbrev pub shown : List ℕ → ℕ → List ℕ
  shown s c = 0 ∷ 3 ∷ 7 ∷ (tabulate 16 (λ i. get_or (turned c) i 0) ++ s)

  module _ (v : Wide) where
    abbrev pub cuts : List Call
    cuts =
        weakening_by (parameter v) (own v 3 7 34)
        ∷ reducing 2 (shown (selector v) (parameter v))
        ∷ joining 2 (shown (selector v) (parameter v)) (shown (lowest v) 1)
        ∷ writing 0 (shown (lowest v) 1) (8 ∷ 9 ∷ 7 ∷ [])
        ∷ []

    abbrev pub cut_answers : List Reply
    cut_answers =
        told 0 (made (selector v) (parameter v)) none 1 0 []
        ∷ told 0 (made (selector v) (parameter v)) none 0 0 []
        ∷ told 0 (made (both v) (pair v)) none 0 0 []
        ∷ told 0 none none 0 0 (8 ∷ 9 ∷ 7 ∷ [])
        ∷ []

    pub record CutUses (s : List ℕ) (k l m x t : ℕ) : Type 0 where
      pub replies : (run f cuts (keeping v s (sixteen 34) k l m x t)).replies ≡ cut_answers
