-- A look beside a read, and beside looks with other arguments that it does not use. Row by row a look has the tests of a read
-- with room for the segment, since the current node is the handle's; so it gets the same number and shows what is read.
-- Assumes nothing.
use mathlib.Core.Path.{◌≡◌, refl, sym, ap, ◌∙◌}
use Prim.Native.Nat.{ℕ, zero, suc, ◌≤◌}
use native.Mathlib.Omega.{arith}
use mathlib.Core.Bool.{Bool, true, false, not, ◌||◌, cond}
use mathlib.Core.List.{List, ◌++◌}
use lib.Dec.{eqb, leb, ltb}
use lib.ListN.{length, drop}
use borrow.Author.Tests.{eq-eqb, le-ltb}
use Rattle.sizes.specs.Sizes.{nodes, clusters}
use Rattle.handle.specs.Handles.{Name, node_of, decoded, no_such_place}
use Rattle.store.specs.declared.Store.{Store}
use Rattle.store.specs.Records.{table_at, length_of}
use Rattle.calls.specs.Calls.{Copy, Call, Arguments, call, look, looking, reading}
use Rattle.calls.specs.Numbers as N
use Rattle.calls.specs.Numbers.{tests, bad_length, unsound, bad_field, gapped_handle, inactive_cluster, other_width, violated}
use Rattle.calls.specs.Numbers.{not_referenced, segment_absent}
use Rattle.calls.specs.Words.{place}
use Rattle.calls.specs.Steps.{read_reply, outcome, step, effects}
use Rattle.calls.specs.LookWords.{reply, LookReads, LookNeeds, LookUses}
use Rattle.calls.proofs.StepLaws.{step_done}
use Rattle.calls.proofs.LookLaws.{look_here, told, cut, shown_length}

-- a node that is looked at twice
twice : (a b : Bool) → ((a || b || false) || a || false) ≡ ((a || b || false) || false || false)
twice true b = refl
twice false true = refl
twice false false = refl

module _ (f : Name → List ℕ → ℕ → List ℕ) (i : ℕ) (h b : List ℕ) (s : Store) (size : ℕ) where
  abbrev y : Call
  y = reading i h b

  abbrev node : ℕ
  node = node_of (decoded h)

  -- the rows that both have, from the second row's test, the fifth's and the fifteenth's
  rows : Bool → Bool → Bool → ℕ
  rows far away short =
      cond (bad_length y) 25
      (cond (unsound size y s) 1
      (cond far 2
      (cond (bad_field y) 3
      (cond (gapped_handle y) 4
      (cond away 5
      (cond (inactive_cluster y (table_at s)) 8
      (cond (other_width y (table_at s)) 25
      (cond (violated f y s) 9
      (cond (not_referenced y) 11 (cond (segment_absent y (table_at s)) 14 (cond short 15 0)))))))))))

  look_rows : (v : ℕ) → N.number f (looking v i h) s size
      ≡ rows ((no_such_place (decoded h) || false) || leb nodes v || false) (not (eqb v node)) false
  unfolding N.number tests rows
  look_rows v = refl

  read_rows : N.number f y s size
      ≡ rows ((no_such_place (decoded h) || false) || false || false) false (ltb (length b) (length_of (place y s)))
  unfolding N.number tests rows
  read_rows = refl

  module _ (room : length_of (place y s) ≤ length b) where
    look_read : (v : ℕ) → v ≡ node → N.number f (looking v i h) s size ≡ N.number f y s size
    look_read v e =
        look_rows v ∙ (λ j. rows (far j) (away j) (enough j)) ∙ sym read_rows
      where
        far : ((no_such_place (decoded h) || false) || leb nodes v || false)
            ≡ ((no_such_place (decoded h) || false) || false || false)
        far =
            ap (λ (w : ℕ). (no_such_place (decoded h) || false) || leb nodes w || false) e
            ∙ twice (leb nodes node) (leb clusters (decoded h).local)

        away : not (eqb v node) ≡ false
        away = ap not (eq-eqb v node e)

        enough : false ≡ ltb (length b) (length_of (place y s))
        enough = sym (le-ltb (length b) (length_of (place y s)) room)

module _ (f : Name → List ℕ → ℕ → List ℕ) where
  pub look_needs : (v i : ℕ) (h : List ℕ) (s : Store) (size : ℕ) → LookNeeds f v i h s size
  look_needs v i h s size =
      record {
        here = λ e b room. look_read f i h b s size room v e;
        away = λ ne e. ne (look_here f v i h s size e);
      }

  pub look_reads : LookReads f
  unfolding effects
  look_reads v i h b c e room =
      step_done f (reading i h b) c done
      ∙ ap (λ (bs : List ℕ). record { copy = c; reply = read_reply n (bs ++ drop n b) }) (sym (cut f v i h c e))
      ∙ ap (λ (k : ℕ). record { copy = c; reply = read_reply k ((reply f v i h c).shown ++ drop k b) }) (sym long)
    where
      n : ℕ
      n = length_of (place (looking v i h) c.store)

      long : length (reply f v i h c).shown ≡ n
      long = shown_length f v i h c e

      done : N.number f (reading i h b) c.store (length c.memory) ≡ 0
      done =
          sym (look_read f i h b c.store (length c.memory) (omega (arith, long, room)) v
          (look_here f v i h c.store (length c.memory) (told f v i h c e)))
          ∙ told f v i h c e

module _ (f : Name → List ℕ → ℕ → List ℕ) (g : Arguments) (c : Copy) where
  abbrev any : Call
  any = call look g

  abbrev own : Call
  own = looking g.current g.segment g.handle

  same_number : N.number f any c.store (length c.memory) ≡ N.number f own c.store (length c.memory)
  unfolding N.number tests
  same_number = refl

  same_outcome : (n : ℕ) → outcome f n any c ≡ outcome f n own c
  unfolding effects
  same_outcome zero = refl
  same_outcome (suc n) = refl

pub look_uses : (f : Name → List ℕ → ℕ → List ℕ) → LookUses f
unfolding step
look_uses f g c =
    ap (λ (n : ℕ). outcome f n (any f g c) c) (same_number f g c)
    ∙ same_outcome f g c (N.number f (own f g c) c.store (length c.memory))
