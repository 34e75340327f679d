-- What a call finds in an image, and what it leaves there. Inner contracts cite these.
--     Opens o b h             o is what the handle h opens in the image b, which holds a sound store
--     Looks r b h             r is that, or what the handle's length and the image are turned down with before all else; good
--                             bytes are the image of the store that they hold
--     Does core hb x          where the bytes hb open a cluster, the core does the call x: it gives back the cluster's record
--     Changes core hb a before after  each such call that presents this handle alone gives the answer a on the image before, and
--                             leaves the image after, with every memory
--     Shows r b x             r is what the look x tells on the image b, and its part rises
-- Assumes nothing.
use Rattle.std.specs.Prelude.{◌≡◌, ◌≤◌, ℕ, true, false, List, [], ◌∷◌, Result, IfOk}
use denote.Ref.{Bor}
use Rattle.numbers.specs.declared.Number.{Number}
use Rattle.numbers.specs.Codes.{told}
use Rattle.sizes.specs.Sizes.{memory}
use Rattle.handle.specs.declared.Handle.{Handle}
use Rattle.handle.specs.Handles.{no_width, decoded}
use Rattle.store.specs.declared.Store.{Store}
use Rattle.store.specs.Records.{cluster_at}
use Rattle.calls.specs.declared.Changed.{Changed}
use Rattle.calls.specs.declared.Part.{Part}
use Rattle.calls.specs.Calls.{Call, among, presented, buffer}
use Rattle.calls.specs.Steps.{look_reply, within, aes_step}
use Rattle.calls.specs.Answers.{Answer, copy_of, replied, changed, looked_as}
use Rattle.refusals.specs.declared.Opened.{Opened}
use Rattle.refusals.specs.Given.{OpenedFrom, record_found}
use Rattle.image.specs.Images.{good, store_in, image_of}
use Rattle.image.specs.Verdicts.{sound_in}
use Rattle.gelmuszta.specs.Exported.{early, leaving, exported_part, OnEveryMemory, Gives}

pub record Opens (o : Opened) (b : List ℕ) (h : Handle) : Type 0 where
  pub sound : o.sound ≡ true
  pub judged : o.sound ≡ sound_in b
  pub handle : o.handle ≡ h
  pub cluster : o.cluster ≡ cluster_at (store_in b) (record_found h)

pub record Looks (r : Result Opened Number) (b : List ℕ) (h : Handle) : Type 0 where
  pub told : told r ≡ early (no_width h) (sound_in b)
  pub opened : IfOk r (λ o. Opens o b h)
  pub whole : good b ≡ true → image_of (store_in b) ≡ b

abbrev pub Does : (Bor Opened → Result Changed Number → Type 0) → List ℕ → Call → Type 0
Does core hb x =
    (o : Bor Opened) (r : Result Changed Number) → core o r → (s : Store) (m : List ℕ) → OpenedFrom o.now s m hb
    → changed (record_found o.now.handle) s m r ≡ aes_step x (copy_of s m)

abbrev pub Changes : (Bor Opened → Result Changed Number → Type 0) → List ℕ → Answer → List ℕ → List ℕ → Type 0
Changes core hb a before after =
    (x : Call) → among (7 ∷ []) x.kind ≡ false → presented x ≡ decoded hb ∷ [] → buffer x ≡ [] → Does core hb x
    → Gives x before (replied a []) after

pub record Shows (r : Result Part Number) (b : List ℕ) (x : Call) : Type 0 where
  pub reply : OnEveryMemory x b (λ m. leaving (look_reply (looked_as r).number (within (looked_as r).part m)) b m)
  pub place : (looked_as r).part ≡ exported_part x b memory
  pub rises : (looked_as r).part.from ≤ (looked_as r).part.to
