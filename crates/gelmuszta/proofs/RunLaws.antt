-- On the image of a store in range a call is the step on that store, and what the step leaves is in range again: so a list
-- of calls is a run of steps, and what is fixed at the end of the run is fixed on the image. A refusal leaves the store,
-- whose image the bytes are.
-- Assumes nothing.
use mathlib.Core.Path.{◌≡◌, refl, sym, ap, ap₂, ◌∙◌, subst}
use mathlib.Core.Logic.{◌≢◌}
use mathlib.Core.Bool.{Bool, true, false, not, false≢true}
use mathlib.Core.List.{List, [], ◌∷◌, map}
use lib.ListN.{length, get_or}
use Prim.Native.Nat.{ℕ, ◌<◌}
use native.Mathlib.Omega.{arith}
use borrow.Author.Tests.{not-true}
use Rattle.sizes.specs.Sizes.{memory, nodes, clusters, segments}
use Rattle.handle.specs.Conversion.{product}
use Rattle.store.specs.declared.Store.{Store}
use Rattle.store.specs.Records.{record_of, table_at, place_on}
use Rattle.calls.specs.declared.Part.{Part}
use Rattle.calls.specs.Looks.{Looked}
use Rattle.calls.specs.Calls.{Copy, Call, Arguments, call, freeze, among, is_look, buffer}
use Rattle.calls.specs.Looks.{aes_looked}
use Rattle.calls.specs.Numbers.{bad_length}
use Rattle.calls.specs.Steps.{Reply, Outcome, plain, run, aes_step}
use Rattle.calls.specs.Answers.{copy_of}
use Rattle.calls.proofs.KindLaws.{but_is}
use Rattle.calls.proofs.TestLaws.{off_is}
use Rattle.calls.proofs.WordLaws.{bad_length_is}
use Rattle.isolation.specs.Copies.{InPlace, set_apart, Alike, Held, Done, also, places}
use Rattle.isolation.proofs.TwoCopies.{two_copies}
use Rattle.isolation.specs.Writers.{SameToWriters}
use Rattle.isolation.proofs.WriterLaws.{writers_learn_nothing}
use Rattle.bits.specs.Bytes.{Bytes}
use Rattle.image.specs.Images.{image_bytes, good, store_in, image_of}
use Rattle.image.specs.Ranges.{StoreFits}
use Rattle.image.proofs.TripLaws.{good_image, store_image, image_store}
use Rattle.image.proofs.RangeLaws.{store_held}
use Rattle.gelmuszta.specs.Exported.{Exported, leaving, early, damaged, imaged, exported, exported_part, Gives}
use Rattle.gelmuszta.specs.Fits.{PasswordsFit, AllFit}
use Rattle.gelmuszta.specs.Runs.{RanOn, run_on, followed_by, places_on, imaged_run, ListsAreRuns, PlacesAreRuns, held, left_on, TwoImages}
use Rattle.gelmuszta.specs.Runs.{WritersOnImages, refused_with, FixedOn, FrozenOnImages, FrozenFromThenOn, DamagedRefused, LengthRefused, RefusalLeaves}
use Rattle.isolation.specs.Frozen.{Fixed}
use Rattle.isolation.proofs.FrozenLaws.{frozen_stays, fixed_from_then_on}
use Rattle.calls.proofs.StepLaws.{step_number, step_refused}
use Rattle.gelmuszta.proofs.ExportLaws.{damaged_by, picked, step_leaves, number_length}
use Rattle.gelmuszta.proofs.LookLaws.{placed}
use Rattle.gelmuszta.proofs.FitLaws.{step_fits}

abbrev number_of : Exported → ℕ
number_of o = o.reply.number

pub exported_good : (x : Call) (b m : List ℕ) → good b ≡ true → exported x b m ≡ imaged (aes_step x (copy_of (store_in b) m))
unfolding exported
exported_good x b m g = ap (picked x b m) g

pub exported_damaged : (x : Call) (b m : List ℕ) → good b ≡ false → exported x b m ≡ damaged x b m
unfolding exported
exported_damaged x b m g = ap (picked x b m) g

-- a call other than weakening that is done says that the image holds a store
pub good_done : (x : Call) (b m : List ℕ) → among (7 ∷ []) x.kind ≡ false → number_of (exported x b m) ≡ 0 → good b ≡ true
good_done x b m k z = go (good b) refl
  where
    never : (l : Bool) → early l false ≡ 0 → ⊥
    never true q = omega (arith, q)
    never false q = omega (arith, q)

    go : (t : Bool) → good b ≡ t → good b ≡ true
    go true e = e
    go false e = absurd (never (bad_length x) (sym (ap number_of (exported_damaged x b m e ∙ ap (λ (u : Bool). damaged_by u (bad_length x) x b m) k)) ∙ z))

pub exported_image : (s : Store) → StoreFits s → (x : Call) (m : List ℕ)
    → exported x (image_of s) m ≡ imaged (aes_step x (copy_of s m))
exported_image s k x m =
    exported_good x (image_of s) m (good_image s k)
    ∙ ap (λ (t : Store). imaged (aes_step x (copy_of t m))) (store_image s k)

list_run : (xs : List Call) (s : Store) (m : List ℕ) → AllFit xs → StoreFits s
    → run_on xs (image_of s) m ≡ imaged_run (run product xs (copy_of s m))
list_run [] s m p k = refl
list_run (x ∷ xs) s m p k =
    ap (λ (o : Exported). followed_by o.reply (run_on xs o.image o.memory)) (exported_image s k x m)
    ∙ ap (followed_by (aes_step x (copy_of s m)).reply)
    (list_run xs (aes_step x (copy_of s m)).copy.store (aes_step x (copy_of s m)).copy.memory p.1
    (step_fits product x (copy_of s m) p.0 k))

pub lists_are_runs : ListsAreRuns
lists_are_runs xs b m p h g =
    ap (λ (i : List ℕ). run_on xs i m) (sym (image_store b h g)) ∙ list_run xs (store_in b) m p (store_held b h)

-- what the contract of a function says of one call, that is lent no memory or is lent one, is the list's first step
pub gives_run : (x : Call) (b after : List ℕ) (r : Reply) → Gives x b r after → (xs : List Call) (m : List ℕ) → length m ≡ memory
    → followed_by r (run_on xs after m) ≡ run_on (x ∷ xs) b m
gives_run x b after r g xs m e = lent_run x b m after m r (g m e) xs
  where
    lent_run : (x : Call) (b m after n : List ℕ) (r : Reply) → leaving r after n ≡ exported x b m → (xs : List Call)
        → followed_by r (run_on xs after n) ≡ run_on (x ∷ xs) b m
    lent_run x b m after n r e xs = ap (λ (o : Exported). followed_by o.reply (run_on xs o.image o.memory)) e

-- ---- the parts that looks tell

-- of the image of a store they are the store's
part_image : (s : Store) → StoreFits s → (x : Call) (m : List ℕ)
    → exported_part x (image_of s) (length m) ≡ (aes_looked x s (length m)).part
unfolding exported_part
part_image s k x m =
    ap (placed x (image_of s) (length m)) (good_image s k)
    ∙ ap (λ (t : Store). (aes_looked x t (length m)).part) (store_image s k)

abbrev pub parts : List Looked → List Part
parts ls = map (λ (l : Looked). l.part) ls

parts_also : (t : Bool) (l : Looked) (ls : List Looked) → parts (also t l ls) ≡ also t l.part (parts ls)
parts_also true l ls = refl
parts_also false l ls = refl

places_run : (xs : List Call) (s : Store) (m : List ℕ) → AllFit xs → StoreFits s
    → places_on xs (image_of s) m ≡ parts (places product xs (copy_of s m))
places_run [] s m p k = refl
places_run (x ∷ xs) s m p k =
    ap (λ (o : Exported). also (is_look x.kind) (exported_part x (image_of s) (length m)) (places_on xs o.image o.memory))
    (exported_image s k x m)
    ∙ (λ j. also (is_look x.kind) (part_image s k x m j)
    (places_run xs (aes_step x (copy_of s m)).copy.store (aes_step x (copy_of s m)).copy.memory p.1
    (step_fits product x (copy_of s m) p.0 k) j))
    ∙ sym (parts_also (is_look x.kind) (aes_looked x s (length m)) (places product xs (aes_step x (copy_of s m)).copy))

pub places_are_runs : PlacesAreRuns
places_are_runs xs b m p h g =
    ap (λ (i : List ℕ). places_on xs i m) (sym (image_store b h g)) ∙ places_run xs (store_in b) m p (store_held b h)

-- ---- what a list leaves

run_fits : (xs : List Call) (c : Copy) → AllFit xs → StoreFits c.store → StoreFits (run product xs c).copy.store
run_fits [] c p k = k
run_fits (x ∷ xs) c p k = run_fits xs (aes_step x c).copy p.1 (step_fits product x c p.0 k)

module _ (xs : List Call) (p : AllFit xs) (b m : List ℕ) (h : Bytes image_bytes b) (g : good b ≡ true) where
  end : Copy
  end = (run product xs (held b m)).copy

  fits : StoreFits end.store
  unfolding end
  fits = run_fits xs (held b m) p (store_held b h)

  good_left : good (run_on xs b m).image ≡ true
  unfolding end
  good_left = ap (λ (r : RanOn). good r.image) (lists_are_runs xs b m p h g) ∙ good_image end.store fits

  -- the image left holds the store that the run leaves
  pub held_left : (run product xs (held b m)).copy ≡ left_on xs b m
  unfolding end
  held_left =
      ap₂ copy_of
      (sym (store_image end.store fits) ∙ ap (λ (r : RanOn). store_in r.image) (sym (lists_are_runs xs b m p h g)))
      (ap (λ (r : RanOn). r.memory) (sym (lists_are_runs xs b m p h g)))

-- ---- two images

module _ (xs : List Call) (p : AllFit xs) (b m d n : List ℕ) (hb : Bytes image_bytes b) (gb : good b ≡ true)
    (hd : Bytes image_bytes d) (gd : good d ≡ true) where
  replies_on : (run product xs (held b m)).replies ≡ (run product xs (held d n)).replies
      → (run_on xs b m).replies ≡ (run_on xs d n).replies
  replies_on e =
      ap (λ (r : RanOn). r.replies) (lists_are_runs xs b m p hb gb)
      ∙ e
      ∙ sym (ap (λ (r : RanOn). r.replies) (lists_are_runs xs d n p hd gd))

  places_on_lem : places product xs (held b m) ≡ places product xs (held d n) → places_on xs b m ≡ places_on xs d n
  places_on_lem e = places_are_runs xs b m p hb gb ∙ ap parts e ∙ sym (places_are_runs xs d n p hd gd)

-- what holds of the two runs' ends holds of what the images left hold
ends_on : (P : Copy → Copy → Type 0) (xs : List Call) (p : AllFit xs) (b m d n : List ℕ) (hb : Bytes image_bytes b)
    (gb : good b ≡ true) (hd : Bytes image_bytes d) (gd : good d ≡ true)
    → P (run product xs (held b m)).copy (run product xs (held d n)).copy → P (left_on xs b m) (left_on xs d n)
ends_on P xs p b m d n hb gb hd gd e =
    subst (P (left_on xs b m)) (held_left xs p d n hd gd)
    (subst (λ (c : Copy). P c (run product xs (held d n)).copy) (held_left xs p b m hb gb) e)

abbrev OtherBytes : ℕ → ℕ → Copy → Copy → Type 0
OtherBytes node local a b =
    (v l i p : ℕ) → v < nodes → l < clusters → i < segments → record_of v l ≢ set_apart node local
    → InPlace v (place_on (table_at a.store) v l i) p → get_or a.memory p 0 ≡ get_or b.memory p 0

pub two_images : TwoImages
two_images node local v l xs b m d n p hb gb hd gd sb sd active alike shut-b shut-d =
    let agreed = two_copies node local product v l xs (held b m) (held d n) sb sd active alike shut-b shut-d in
    record {
      replies = replies_on xs p b m d n hb gb hd gd agreed.replies;
      places = places_on_lem xs p b m d n hb gb hd gd agreed.places;
      good_first = good_left xs p b m hb gb;
      good_second = good_left xs p d n hd gd;
      alike = ends_on (Alike node local) xs p b m d n hb gb hd gd agreed.alike;
      others = ends_on (OtherBytes node local) xs p b m d n hb gb hd gd agreed.others;
      held_first = subst (Held node local (held b m)) (held_left xs p b m hb gb) agreed.held_first;
      held_second = subst (Held node local (held d n)) (held_left xs p d n hd gd) agreed.held_second;
    }

pub writers_on_images : WritersOnImages
writers_on_images node local v l xs b m d n p hb gb hd gd sb sd same no-b no-d =
    let u = writers_learn_nothing product node local v l xs (held b m) (held d n) sb sd same no-b no-d in
    record {
      replies = replies_on xs p b m d n hb gb hd gd u.replies;
      places = places_on_lem xs p b m d n hb gb hd gd u.places;
      good_first = good_left xs p b m hb gb;
      good_second = good_left xs p d n hd gd;
      same = ends_on (SameToWriters node local) xs p b m d n hb gb hd gd u.same;
    }

-- ---- what is frozen

carried : (v l i base size : ℕ) (xs : List Call) (b m : List ℕ) → AllFit xs → Bytes image_bytes b → good b ≡ true
    → Fixed v l i base size (held b m) (run product xs (held b m)).copy → FixedOn v l i base size xs b m
carried v l i base size xs b m p h g f =
    record {
      good = good_left xs p b m h g;
      fixed = subst (Fixed v l i base size (held b m)) (held_left xs p b m h g) f;
    }

pub frozen_on_images : FrozenOnImages
frozen_on_images v l i base size hv hl hi xs b m p h g s q t =
    carried v l i base size xs b m p h g (frozen_stays product v l i base size hv hl hi xs (held b m) s q t)

module _ (g : Arguments) (b m : List ℕ) where
  abbrev freezes : Call
  freezes = call freeze g

  -- a freeze takes in no password
  freeze_fits : PasswordsFit freezes
  freeze_fits = record { first = λ q. absurd (false≢true q); second = λ q. absurd (false≢true q) }

  module _ (z : number_of (exported freezes b m) ≡ 0) where
    -- an image that holds no store is refused
    done_good : good b ≡ true
    done_good = good_done freezes b m refl z

    done_step : Done product freezes (held b m)
    done_step = step_number product freezes (held b m) (sym (ap number_of (exported_good freezes b m done_good)) ∙ z)

pub frozen_from_then_on : FrozenFromThenOn
frozen_from_then_on g xs b m p h z =
    let f = fixed_from_then_on product g xs (held b m) (done_step g b m z) in
    record {
      present = f.present;
      fixed = λ base size q.
          carried _ _ g.segment base size (call freeze g ∷ xs) b m (freeze_fits g b m, p) h (done_good g b m z)
          (f.fixed base size q);
    }

-- ---- a refusal

-- what is refused with its own number
told : (x : Call) (b m : List ℕ) (o : Exported) → exported x b m ≡ o → o ≡ refused_with (number_of o) x b m
    → exported x b m ≡ refused_with (number_of (exported x b m)) x b m
told x b m o e r = e ∙ r ∙ ap (λ (n : ℕ). refused_with n x b m) (sym (ap number_of e))

-- every kind but weakening has another code than 7
pub damaged_refused : DamagedRefused
damaged_refused x b m n l g =
    exported_damaged x b m g
    ∙ ap₂ (λ (u v : Bool). damaged_by u v x b m)
    (not-true (among (7 ∷ []) x.kind) ((but_is (λ k. not (among (7 ∷ []) k)) refl x).into n))
    (off_is (bad_length_is x) l)

-- a handle of none of the three lengths
pub length_refused : LengthRefused
length_refused x b m h l = go (good b) refl
  where
    long : bad_length x ≡ true
    long = (bad_length_is x).into l

    stepped : (s : Store) → aes_step x (copy_of s m) ≡ record { copy = copy_of s m; reply = plain 25 (buffer x) }
    stepped s =
        step_refused product x (copy_of s m) 25 (number_length x s (length m) long) (λ z. omega (arith, z))

    go : (g : Bool) → good b ≡ g → exported x b m ≡ refused_with 25 x b m
    go true e =
        exported_good x b m e ∙ ap imaged (stepped (store_in b))
        ∙ ap (λ (i : List ℕ). refused_with 25 x i m) (image_store b h e)
    go false e = exported_damaged x b m e ∙ by (among (7 ∷ []) x.kind) refl
      where
        by : (u : Bool) → among (7 ∷ []) x.kind ≡ u → damaged x b m ≡ refused_with 25 x b m
        by true q =
            ap (λ (u : Bool). damaged_by u (bad_length x) x b m) q
            ∙ ap (λ (o : Outcome). record { reply = o.reply; image = b; memory = m }) (stepped (store_in b))
        by false q = λ j. damaged_by (q j) (long j) x b m

pub refusal_leaves : RefusalLeaves
refusal_leaves x b m h = go (good b) refl
  where
    go : (g : Bool) → good b ≡ g → (number_of (exported x b m) ≡ 0 → ⊥)
        → exported x b m ≡ refused_with (number_of (exported x b m)) x b m
    go true e ne =
        told x b m _ (exported_good x b m e)
        (ap imaged (step_leaves x (copy_of (store_in b) m) (λ z. ne (ap number_of (exported_good x b m e) ∙ z)))
        ∙ ap (λ (i : List ℕ). refused_with (aes_step x (copy_of (store_in b) m)).reply.number x i m) (image_store b h e))
    go false e ne = told x b m (damaged x b m) (exported_damaged x b m e) (left_damaged (among (7 ∷ []) x.kind) (λ z. ne (ap number_of (exported_damaged x b m e) ∙ z)))
      where
        left_damaged : (u : Bool) → (number_of (damaged_by u (bad_length x) x b m) ≡ 0 → ⊥)
            → damaged_by u (bad_length x) x b m ≡ refused_with (number_of (damaged_by u (bad_length x) x b m)) x b m
        left_damaged true ne =
            ap (λ (o : Outcome). record { reply = o.reply; image = b; memory = m }) (step_leaves x (copy_of (store_in b) m) ne)
        left_damaged false ne = refl
