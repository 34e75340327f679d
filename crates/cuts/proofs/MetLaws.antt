-- The hypotheses of the theorem are met: by the primary handle of each width in each mode, with any passwords of sixteen bytes, and all
-- three ways are done, as the replies that are written out say.
-- Assumes nothing.
use mathlib.Core.Path.{◌≡◌, refl, sym, ap, ◌∙◌, subst}
use mathlib.Core.Logic.{inl, inr}
use Prim.Native.Nat.{ℕ, zero, suc, ◌+◌, ◌*◌, ◌<◌}
use native.Mathlib.Omega.{arith}
use mathlib.Core.Bool.{Bool, true, false, ◌&&◌, not}
use mathlib.Core.List.{List, [], ◌∷◌, ◌++◌, map}
use lib.Dec.{ltb}
use lib.ListN.{length, get_or}
use borrow.Author.Tests.{ltb-true}
use Rattle.bits.specs.Sets.{has, set_of, count}
use Rattle.bits.specs.Bytes.{Bytes}
use Rattle.loops.specs.Below.{every}
use Rattle.loops.proofs.BelowLaws.{and_left, and_right, every_at}
use Rattle.handle.specs.declared.Handle.{Handle}
use Rattle.handle.specs.Widths.{bits_of}
use Rattle.handle.specs.Handles.{Name, name_of, width_of, bytes_in, decoded}
use Rattle.handle.specs.Conversion.{SixteenBytes}
use Rattle.handle.specs.Words.{Bit}
use Rattle.handle.proofs.TripLaws.{bytes_laid}
use Rattle.store.specs.declared.Cluster.{Cluster}
use Rattle.store.specs.Records.{cluster_at}
use Rattle.calls.specs.Calls.{Copy, weakening_by}
use Rattle.calls.specs.Steps.{Reply}
use Rattle.calls.specs.Literals.{none, told}
use Rattle.calls.specs.JoinWords.{PrimaryFor}
use Rattle.calls.proofs.TestLaws.{Is, same_is, and_is}
use Rattle.calls.proofs.SelectorWords.{bit_is}
use Rattle.isolation.specs.UseLists.{Wide, of_four, of_eight, of_sixteen, records, keeping}
use Rattle.cuts.specs.Cuts.{Way, first_second, second_first, once, masks}
use Rattle.cuts.specs.Words.{Both, weaker, cut, Done, on_copy, Sixteen}
use Rattle.calls.specs.WidthReplies.{Answered}
use Rattle.handle.specs.Handles.{weaken_number, weakened, weakening}
use Rattle.chain.specs.Way.{reached, numbered, way}
use Rattle.chain.specs.Way as R
use Rattle.loops.specs.Search.{least_from, least}
use Rattle.register.specs.Registers.{steps, made}
use Rattle.register.specs.Registers as Registers
use Rattle.cuts.specs.cases.Computed.{either}
use Rattle.cuts.specs.cases.Replies.{by, Written, written, g, three, given, Told, WayMet, WaysMetWith, EntriesMet, WaysMet}
use Rattle.cuts.proofs.ReplyLaws.{kind}
use Rattle.cuts.proofs.ThreeLaws.{whole, whole_back, one_two_back, two_one_back, three_told}
use Rattle.cuts.proofs.UseLaws.{orders}

-- a mask has the bits of both, by a test of each
abbrev pub same : Bool → Bool → Bool
same true b = b
same false b = not b

same_out : (a b : Bool) → same a b ≡ true → a ≡ b
same_out true b e = sym e
same_out false true e = e
same_out false false e = refl

pub both_tested : (w a b s : ℕ) → every w (λ i. same (has i s) (has i a && has i b)) ≡ true → Both w a b s
both_tested w a b s e i l =
    let t : Is (has i s) (Bit i a × Bit i b)
    = same_is (same_out (has i s) (has i a && has i b) (every_at w (λ i. same (has i s) (has i a && has i b)) e i l))
    (and_is (bit_is i a) (bit_is i b)) in (
      λ r. t.out ((bit_is i s).into r),
      λ r. (bit_is i s).out (t.into r),
    )

-- one of the replies that a list of calls gets
abbrev pub nothing : Reply
nothing = told 0 none none 0 0 []

pub told_at : (f : Name → List ℕ → ℕ → List ℕ) (c : Copy) (xs : List Answered) → Told f c xs → (i : ℕ)
    → get_or (map (λ (a : Answered). on_copy f c a.call) xs) i nothing ≡ get_or (map (λ (a : Answered). a.reply) xs) i nothing
told_at f c xs e i = ap (λ (l : List Reply). get_or l i nothing) e

-- bytes below 256
pub low_after : (p q : List ℕ) → ((i : ℕ) → get_or p i 0 < 256) → ((i : ℕ) → get_or q i 0 < 256) → (i : ℕ) → get_or (p ++ q) i 0 < 256
low_after [] q a b i = b i
low_after (x ∷ p) q a b zero = a 0
low_after (x ∷ p) q a b (suc i) = low_after p q (λ j. a (suc j)) b i

abbrev pub low_bytes : List ℕ → Bool
low_bytes [] = true
low_bytes (b ∷ bs) = ltb b 256 && low_bytes bs

pub low : (bs : List ℕ) → low_bytes bs ≡ true → (i : ℕ) → get_or bs i 0 < 256
low [] e i = omega arith
low (b ∷ bs) e zero = ltb-true b 256 (and_left (ltb b 256) (low_bytes bs) e)
low (b ∷ bs) e (suc i) = low bs (and_right (ltb b 256) (low_bytes bs) e) i

-- the passwords of the cluster
pub sixteen_of : (v : Wide) (r w : List ℕ) → (length r ≡ 16) × (length w ≡ 16) → (m : ℕ) (k : Handle)
    → name_of k ≡ record { node = 3; local = 7 } → Sixteen m k (records v r w)
sixteen_of v r w long m k e q t =
    go
    (subst (λ (k : Cluster). PrimaryFor m k q) (ap (λ (n : Name). cluster_at (records v r w) (n.node * 8 + n.local)) e) t)
  where
    go : PrimaryFor m (cluster_at (records v r w) 31) q → length q ≡ 16
    go (inl (a, e)) = ap length e ∙ long.0
    go (inr (a, e)) = ap length e ∙ long.1

low_by : (v : Wide) (p : List ℕ) → Bytes 16 p → (i : ℕ) → get_or (by p (written v).whole) i 0 < 256
low_by v p o =
    low_after (0 ∷ 3 ∷ 7 ∷ []) (p ++ (written v).whole) (low (0 ∷ 3 ∷ 7 ∷ []) refl)
    (low_after p (written v).whole o.below
    (low (written v).whole (elim v as (λ (u : Wide). low_bytes (written u).whole ≡ true) [ of_four ↦ refl | of_eight ↦ refl | of_sixteen ↦ refl ])))

module _ (f : Name → List ℕ → ℕ → List ℕ) (v : Wide) (r w : List ℕ) (b c d y z : ℕ) where
  abbrev on : Copy
  on = keeping v r w b c d y z

  -- a row of weakenings that is done and gives the bytes k
  pub record Gives (ms h k : List ℕ) : Type 0 where
    pub done : Done (on_copy f on) ms h
    pub bytes : cut (on_copy f on) ms h ≡ k

  pub gives_none : (h : List ℕ) → Gives [] h h
  gives_none h = record { done = tt; bytes = refl }

  -- a weakening whose reply is written out, and what comes after it
  pub then : (mask : ℕ) (h k l : List ℕ) (n : ℕ) (ms : List ℕ) → on_copy f on (weakening_by mask h) ≡ told 0 k none n 0 []
      → Gives ms k l → Gives (mask ∷ ms) h l
  then mask h k l n ms e d =
      record {
        done = (ap (λ (r : Reply). r.number) e, subst (Done (on_copy f on) ms) (sym is) d.done);
        bytes = ap (cut (on_copy f on) ms) is ∙ d.bytes;
      }
    where
      is : weaker (on_copy f on) mask h ≡ k
      is = ap (λ (r : Reply). bytes_in r.first) e ∙ bytes_laid k

  module _ (m : ℕ) (p : List ℕ) (long : (length r ≡ 16) × (length w ≡ 16)) (o : Bytes 16 p) (told : Told f on (three f v m p)) where
    abbrev h : List ℕ
    h = by p (written v).whole

    back : decoded h ≡ whole f p v
    back = whole_back f p v o.long

    abbrev t : Written
    t = written v

    gives : (x : Way) → Gives (masks t.first t.second t.shared x) h (given f v p x)
    gives first_second =
        then t.first h one (given f v p first_second) t.after_first (t.second ∷ []) (told_at f on (three f v m p) told 1)
        (then t.second one (given f v p first_second) (given f v p first_second) t.after_both [] (told_at f on (three f v m p) told 2)
        (gives_none (given f v p first_second)))
      where
        one : List ℕ
        one = by (g f p t.by_first) t.one
    gives second_first =
        then t.second h two (given f v p second_first) t.after_second (t.first ∷ []) (told_at f on (three f v m p) told 5)
        (then t.first two (given f v p second_first) (given f v p second_first) t.after_both [] (told_at f on (three f v m p) told 6)
        (gives_none (given f v p second_first)))
      where
        two : List ℕ
        two = by (g f p t.by_second) t.two
    gives once =
        then t.shared h (given f v p once) (given f v p once) t.after_both [] (told_at f on (three f v m p) told 9) (gives_none (given f v p once))

    met : WayMet f v m p on
    unfolding every has
    met =
        record {
          start = record { bytes = low_by v p o; sixteen = sixteen_of v r w long m (decoded h) (ap name_of back); valid = ap (λ (r : Reply). r.number) (told_at f on (three f v m p) told 0) };
          both =
              subst (λ (n : ℕ). Both n t.first t.second t.shared) (sym (ap width_of back))
              (both_tested (bits_of (kind v)) t.first t.second t.shared
              (elim v as (λ (u : Wide). every (bits_of (kind u)) (λ i. same (has i (written u).shared) (has i (written u).first && has i (written u).second)) ≡ true) [ of_four ↦ refl | of_eight ↦ refl | of_sixteen ↦ refl ]));
          done = λ x. (gives x).done;
          gives = λ x. (gives x).bytes;
        }

ways_met_with : (f : Name → List ℕ → ℕ → List ℕ) → SixteenBytes f → WaysMetWith f
ways_met_with f sixteen v r w b c d y z rs ws =
    let t = three_told f sixteen v r w b c d y z rs.long ws.long in (
      met f v r w b c d y z 1 r (rs.long, ws.long) rs t.reading,
      met f v r w b c d y z 2 w (rs.long, ws.long) ws t.writing,
    )

-- ---- entries

module _ (f : Name → List ℕ → ℕ → List ℕ) (sixteen : SixteenBytes f) (r w : List ℕ) (b c d y z : ℕ) (rs : Bytes 16 r) (ws : Bytes 16 w)
  where
    entries_met : EntriesMet f r w b c d y z
    unfolding has set_of count weaken_number weakened weakening reached numbered R.met way R.records least least_from steps made
    entries_met =
        record {
          start = (ways_met_with f sixteen of_eight r w b c d y z rs ws).0.start;
          first =
              ap (λ (h : Handle). made f h (either 0x75 0xdc) 2) (whole_back f r of_eight rs.long)
              ∙ ap Registers.given (sym (one_two_back f r of_eight sixteen));
          second =
              ap (λ (h : Handle). made f h (either 0xdc 0x75) 2) (whole_back f r of_eight rs.long)
              ∙ ap Registers.given (sym (two_one_back f r of_eight sixteen));
          ways = orders 0x75 0xdc;
        }

pub ways_met : WaysMet
ways_met f sixteen = (ways_met_with f sixteen, λ r w b c d y z rs ws. entries_met f sixteen r w b c d y z rs ws)
