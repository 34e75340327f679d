-- A freeze in words. Call 10 done has shown that its cluster is active and its segment present, so that both are found in
-- the store, and the record put differs from the old one in that mark alone.
-- Assumes nothing.
use mathlib.Core.Path.{◌≡◌, refl, sym, ap, ◌∙◌, subst}
use mathlib.Core.Logic.{◌≢◌, ◌⊎◌, inl, inr}
use Prim.Native.Nat.{ℕ, ◌<◌}
use native.Mathlib.Omega.{arith}
use native.Mathlib.Decide.{ℕ_discrete, dec_lt}
use mathlib.Core.Bool.{false, true≢false}
use mathlib.Core.List.{List, []}
use lib.ListN.{length, get_or-eq_default}
use lib.Seq.{get_or-set_same, get_or-set_other}
use Rattle.handle.specs.Handles.{Name}
use Rattle.store.specs.Places.{Place, None, Some, present_at}
use Rattle.store.specs.declared.Segment.{Segment}
use Rattle.store.specs.declared.Cluster.{Cluster}
use Rattle.store.specs.Records.{marked_at, absent_segment, table_of, cluster_at, segment_of, place_of, put_record, with_mark}
use Rattle.store.specs.Sound.{is_absent}
use Rattle.store.proofs.ChangeLaws.{put_same, put_other}
use Rattle.store.proofs.RecordLaws.{put_itself, mark_itself}
use Rattle.calls.specs.Calls.{Copy, Call, Arguments, call, freeze, record_for}
use Rattle.calls.specs.Numbers.{segment_absent, number}
use Rattle.calls.specs.Steps.{Outcome, plain, put_cluster, about, segment_marked, left, given, step}
use Rattle.calls.specs.FreezeWords.{SameRecords, FreezeInWords}
use Rattle.calls.proofs.DoneLaws.{no_row, done_active}
use Rattle.calls.proofs.MadeWordLaws.{active_in}
use Rattle.calls.proofs.StepLaws.{step_done}

-- a present segment is one of the record's
pub present_in : (d : Cluster) (i : ℕ) → is_absent (place_of (table_of d) i) ≡ false → i < length d.segments
present_in d i e = go (dec_lt i (length d.segments))
  where
    go : Dec (i < length d.segments) → i < length d.segments
    go (yes h) = h
    go (no h) =
        absurd (true≢false
        (sym (ap (λ (g : Segment). is_absent g.place) (get_or-eq_default d.segments absent_segment (omega arith)))
        ∙ e))

present_words : (p : Place) → is_absent p ≡ false → (base : ℕ) × (length : ℕ) × (p ≡ present_at base length)
present_words None e = absurd (true≢false e)
present_words (Some span) e = (span.base, span.length, refl)

module _ (f : Name → List ℕ → ℕ → List ℕ) (g : Arguments) (c : Copy) where
  abbrev x : Call
  x = call freeze g

  abbrev n : ℕ
  n = record_for x

  abbrev old : Cluster
  old = about x c

  module _ (e : number f x c.store (length c.memory) ≡ 0) where
    pub freeze_present : is_absent (place_of (table_of old) g.segment) ≡ false
    unfolding segment_absent
    freeze_present = (no_row f x c.store (length c.memory) e).segment_absent

    pub step_marked : step f x c ≡ record { copy = segment_marked x c; reply = plain 0 [] }
    unfolding left given
    step_marked = step_done f x c e

    -- the record left, and every other
    own : cluster_at (put_record c.store n (with_mark old g.segment)) n ≡ with_mark old g.segment
    own =
        put_same c.store n (with_mark old g.segment)
        (active_in c.store n (done_active f x c.store (length c.memory) e refl))

    -- what the record left has in common with the old one, every record has
    common : {A : Type 0} (p : Cluster → A) (m : ℕ) → (m ≡ n → p (with_mark old g.segment) ≡ p old)
        → p (cluster_at (put_record c.store n (with_mark old g.segment)) m) ≡ p (cluster_at c.store m)
    common p m h = go (ℕ_discrete m n)
      where
        go : Dec (m ≡ n)
            → p (cluster_at (put_record c.store n (with_mark old g.segment)) m) ≡ p (cluster_at c.store m)
        go (yes q) =
            ap (λ (k : ℕ). p (cluster_at (put_record c.store n (with_mark old g.segment)) k)) q
            ∙ ap p own ∙ h q ∙ ap (λ (k : ℕ). p (cluster_at c.store k)) (sym q)
        go (no q) = ap p (put_other c.store n (with_mark old g.segment) m q)

    new : segment_of (table_of (with_mark old g.segment)) g.segment
        ≡ marked_at (place_of (table_of old) g.segment)
    new = get_or-set_same old.segments g.segment _ absent_segment (present_in old g.segment freeze_present)

    same : SameRecords n g.segment (put_record c.store n (with_mark old g.segment)) c.store
    same =
        record {
          active = λ m. common (λ d. d.active) m (λ q. refl);
          width = λ m. common (λ d. d.width) m (λ q. refl);
          read = λ m. common (λ d. d.read) m (λ q. refl);
          write = λ m. common (λ d. d.write) m (λ q. refl);
          segments = λ m j d. common (λ d. segment_of (table_of d) j) m (λ q. apart m j d q);
        }
      where
        apart : (m j : ℕ) → (m ≢ n) ⊎ (j ≢ g.segment) → m ≡ n
            → segment_of (table_of (with_mark old g.segment)) j ≡ segment_of (table_of old) j
        apart m j (inl d) q = absurd (d q)
        apart m j (inr d) q = get_or-set_other old.segments g.segment j _ absent_segment d

    pub freeze_in_words : FreezeInWords f g c
    unfolding segment_marked
    freeze_in_words =
        record {
          present = present_words (place_of (table_of old) g.segment) freeze_present;
          marked = seen (λ d. (segment_of (table_of d) g.segment).frozen) ∙ ap (λ (s : Segment). s.frozen) new;
          stays = seen (λ d. place_of (table_of d) g.segment) ∙ ap (λ (s : Segment). s.place) new;
          others = subst (λ (o : Outcome). SameRecords n g.segment o.copy.store c.store) (sym step_marked) same;
          memory = ap (λ (o : Outcome). o.copy.memory) step_marked;
          reply = ap (λ (o : Outcome). o.reply) step_marked;
          twice = λ t.
              ap (λ (o : Outcome). o.copy) step_marked
              ∙ ap (put_cluster c n) (mark_itself old g.segment t)
              ∙ ap (λ s. record { store = s; memory = c.memory }) (put_itself c.store n);
        }
      where
        seen : {A : Type 0} (p : Cluster → A)
            → p (cluster_at (step f x c).copy.store n) ≡ p (with_mark old g.segment)
        seen p = ap (λ (o : Outcome). p (cluster_at o.copy.store n)) step_marked ∙ ap p own
