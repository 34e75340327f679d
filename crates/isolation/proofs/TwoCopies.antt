-- Condition 3, by induction over the list. What holds before each call: the copies are alike, both are sound, and each
-- holds the cluster set apart as it did at the start. A call gets the same number in both copies; refused, it changes
-- nothing; done, it is about another cluster, and leaves and gives alike. A look's part comes from the number and the tables.
-- Assumes nothing.
use mathlib.Core.Path.{◌≡◌, refl, sym, ap, ◌∙◌, subst}
use Prim.Native.Nat.{ℕ, ◌<◌}
use mathlib.Core.Bool.{true}
use mathlib.Core.List.{List}
use lib.ListN.{length}
use Rattle.sizes.specs.Sizes.{nodes, clusters}
use Rattle.handle.specs.Handles.{Name}
use Rattle.store.specs.declared.Cluster.{Cluster}
use Rattle.store.specs.Records.{Table, table_of, place_of}
use Rattle.calls.specs.Calls.{Copy, Call, call, Arguments, Kind, new_cluster, delete_cluster, new_segment, delete_segment}
use Rattle.calls.specs.Calls.{read, write, weaken, reduce, new_password, freeze, join, validate, look, opens}
use Rattle.calls.specs.Numbers.{number}
use Rattle.calls.specs.Steps.{left, step, run}
use Rattle.isolation.specs.Copies.{SoundCopy, Done, InPlace, set_apart, Alike, Held, Shut}
use Rattle.isolation.specs.Statements.{TwoCopies}
use Rattle.isolation.proofs.AddressLaws.{place_outside}
use Rattle.calls.proofs.DoneLaws.{new_away}
use Rattle.isolation.proofs.AwayLaws.{shut_away}
use Rattle.isolation.proofs.KeptLaws.{tables, facts, left_held, held_same, by_number, step_sound}
use Rattle.isolation.proofs.NumberLaws.{alike_tables, same_number}
use Rattle.isolation.proofs.PairLaws.{same_looked, same_step, Stepped, kept_run, replies_run, places_run}
use Rattle.isolation.proofs.AlikeLaws.{left_alike, given_alike}

module _ (node local : ℕ) (high : node < nodes) (low : local < clusters) (f : Name → List ℕ → ℕ → List ℕ) where
  abbrev Active : Copy → Type 0
  Active c = (tables c (set_apart node local)).active ≡ true

  -- ---- one copy: the cluster set apart is held

  held_trans : (a b c : Copy) → Held node local a b → Held node local b c → Held node local a c
  held_trans a b c h k =
      record {
        cluster = h.cluster ∙ k.cluster;
        bytes = λ p i hi u.
            h.bytes p i hi u
            ∙ k.bytes p i hi (subst (λ (d : Cluster). InPlace node (place_of (table_of d) i) p) h.cluster u);
      }

  module _ (g : Arguments) (c : Copy) (k : SoundCopy c) (active : Active c) where
    opening_held : (kind : Kind) → opens kind ≡ true → Shut node local f (call kind g) c.store
        → Done f (call kind g) c → Held node local c (left kind (call kind g) c)
    opening_held kind o s e =
        left_held f g c k node local high low kind e
        (shut_away f (call kind g) c.store (length c.memory) e o node local low s)

    shut_held : (kind : Kind) → Shut node local f (call kind g) c.store → Done f (call kind g) c
        → Held node local c (left kind (call kind g) c)
    unfolding left
    shut_held new_cluster s e =
        left_held f g c k node local high low new_cluster e
        (new_away f g c.store (length c.memory) e (set_apart node local) active)
    shut_held delete_cluster s e = opening_held delete_cluster refl s e
    shut_held new_segment s e = opening_held new_segment refl s e
    shut_held delete_segment s e = opening_held delete_segment refl s e
    shut_held read s e = opening_held read refl s e
    shut_held write s e = opening_held write refl s e
    shut_held weaken s e = held_same f node local c
    shut_held reduce s e = opening_held reduce refl s e
    shut_held new_password s e = opening_held new_password refl s e
    shut_held freeze s e = opening_held freeze refl s e
    shut_held join s e = opening_held join refl s e
    shut_held validate s e = opening_held validate refl s e
    shut_held look s e = opening_held look refl s e

  step_held : (x : Call) (c : Copy) → SoundCopy c → Active c → Shut node local f x c.store
      → Held node local c (step f x c).copy
  step_held x c k active s =
      by_number f (Held node local c) x c (held_same f node local c) (shut_held x.args c k active x.kind s)

  -- ---- two copies: one call

  -- what holds before each call, of the copies a and b that began as c and d
  record Invariant (c d a b : Copy) : Type 0 where
    alike : Alike node local a b
    sound_first : SoundCopy a
    sound_second : SoundCopy b
    held_first : Held node local c a
    held_second : Held node local d b

  module _ (c d : Copy) (active : Active c) where
    module _ (a b : Copy) (v : Invariant c d a b) where
      first_active : Active a
      first_active = ap (λ (k : Cluster). k.active) (sym v.held_first.cluster) ∙ active

      second_active : Active b
      second_active = ap (λ (t : Table). t.active) (sym v.alike.table) ∙ first_active

      module _ (x : Call) (sa : Shut node local f x a.store) (sb : Shut node local f x b.store) where
        numbers : number f x a.store (length a.memory) ≡ number f x b.store (length b.memory)
        numbers = same_number node local low f a b v.alike x v.sound_first v.sound_second sa sb

        stepped : Stepped f (Invariant c d) x a b
        stepped =
            let s =
            same_step f x a b numbers (Alike node local) v.alike
            (λ e. (
              given_alike node local high low f a b v.alike v.sound_first first_active x.args x.kind sa e,
              left_alike node local high low f a b v.alike v.sound_first first_active x.args x.kind sa e,
            )) in
            record {
              reply = s.0;
              told = same_looked f x a b numbers (alike_tables node local a b v.alike);
              kept =
                  record {
                    alike = s.1;
                    sound_first = step_sound f x a v.sound_first;
                    sound_second = step_sound f x b v.sound_second;
                    held_first = held_trans c a _ v.held_first (step_held x a v.sound_first first_active sa);
                    held_second = held_trans d b _ v.held_second (step_held x b v.sound_second second_active sb);
                  };
            }

    one : (x : Call) (a b : Copy) → Invariant c d a b → Shut node local f x a.store → Shut node local f x b.store
        → Stepped f (Invariant c d) x a b
    one x a b v sa sb = stepped a b v x sa sb

pub two_copies : (node local : ℕ) (f : Name → List ℕ → ℕ → List ℕ) → TwoCopies node local f
two_copies node local f high low xs a b ka kb active al sa sb =
    let v : Invariant node local high low f a b a b =
    record {
      alike = al;
      sound_first = ka;
      sound_second = kb;
      held_first = held_same f node local a;
      held_second = held_same f node local b;
    } in
    let i = Invariant node local high low f a b in
    let t = one node local high low f a b active in
    let w = kept_run f i (Shut node local f) t xs a b v sa sb in
    record {
      replies = replies_run f i (Shut node local f) t xs a b v sa sb;
      places = places_run f i (Shut node local f) t xs a b v sa sb;
      alike = w.alike;
      others = λ v l i p hv hl hi ne u.
          w.alike.bytes p
          (place_outside (run f xs a).copy.store (length (run f xs a).copy.memory)
          (facts (run f xs a).copy w.sound_first) node local high low v l i hv hl hi ne p u);
      held_first = w.held_first;
      held_second = w.held_second;
    }
