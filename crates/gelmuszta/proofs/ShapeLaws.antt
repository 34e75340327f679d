-- What a kind of call leaves zero in its reply it leaves zero on every image: so the reply is known from the fields that the
-- code hands out.
-- Assumes nothing.
use mathlib.Core.Path.{◌≡◌, refl, sym, ap, ◌∙◌}
use mathlib.Core.Bool.{Bool, true, false}
use mathlib.Core.List.{List, [], ◌∷◌}
use Prim.Native.Nat.{ℕ}
use Rattle.std.specs.Prelude.{Ok, Err}
use Rattle.std.specs.Result.{result_unwrap_or}
use Rattle.numbers.specs.Codes.{told}
use Rattle.handle.specs.declared.HandleBytes.{HandleBytes}
use Rattle.handle.specs.Conversion.{product}
use Rattle.store.specs.declared.Store.{Store}
use Rattle.calls.specs.declared.Given.{Given}
use Rattle.calls.specs.declared.Given.TheVariants.{Nothing}
use Rattle.calls.specs.Calls.{Call, Copy, among, buffer, weakening_by}
use Rattle.calls.specs.Numbers.{bad_length}
use Rattle.calls.specs.Steps.{Reply, Outcome, plain, given, aes_step}
use Rattle.calls.specs.Answers.{Answer, copy_of, replied, ended, gives, no_handle, first, second, count, length}
use Rattle.image.specs.Images.{good, store_in}
use Rattle.gelmuszta.specs.Exported.{nothing, reply_of, leaving, early, exported, Gives, Always}
use Rattle.gelmuszta.proofs.ReplyLaws.{Silent, OneHandle, TwoHandles, Length, always, whole, count_reply, weaken_counts}
use Rattle.gelmuszta.proofs.ExportLaws.{damaged_by, picked}

-- a field that is the same in every refusal and in what the call gives
module _ {A : Type 0} (field : Reply → A) (z : A) (refusal : (n : ℕ) (b : List ℕ) → field (plain n b) ≡ z) where
  everywhere : (x : Call) → among (7 ∷ []) x.kind ≡ false → ((c : Copy) → field (given product x.kind x c) ≡ z)
      → (b m : List ℕ) → z ≡ field (exported x b m).reply
  unfolding exported
  everywhere x looks done b m = sym (go (good b))
    where
      go : (g : Bool) → field (picked x b m g).reply ≡ z
      go true = always field z refusal x (copy_of (store_in b) m) (done (copy_of (store_in b) m))
      go false =
          ap (λ (u : Bool). field (damaged_by u (bad_length x) x b m).reply) looks
          ∙ refusal (early (bad_length x) false) (buffer x)

module _ (x : Call) (looks : among (7 ∷ []) x.kind ≡ false) (r : Copy → Reply)
    (e : (c : Copy) → given product x.kind x c ≡ r c) (b m : List ℕ) where
  none_first : ((c : Copy) → (r c).first ≡ nothing) → nothing ≡ (exported x b m).reply.first
  none_first h = everywhere (λ (q : Reply). q.first) nothing (λ n d. refl) x looks (λ c. ap (λ (q : Reply). q.first) (e c) ∙ h c) b m

  none_second : ((c : Copy) → (r c).second ≡ nothing) → nothing ≡ (exported x b m).reply.second
  none_second h = everywhere (λ (q : Reply). q.second) nothing (λ n d. refl) x looks (λ c. ap (λ (q : Reply). q.second) (e c) ∙ h c) b m

  none_count : ((c : Copy) → (r c).count ≡ 0) → 0 ≡ (exported x b m).reply.count
  none_count h = everywhere (λ (q : Reply). q.count) 0 (λ n d. refl) x looks (λ c. ap (λ (q : Reply). q.count) (e c) ∙ h c) b m

  none_length : ((c : Copy) → (r c).length ≡ 0) → 0 ≡ (exported x b m).reply.length
  none_length h = everywhere (λ (q : Reply). q.length) 0 (λ n d. refl) x looks (λ c. ap (λ (q : Reply). q.length) (e c) ∙ h c) b m

-- ---- the reply from the fields that are handed out

-- what is given, where a refusal gives nothing
pub gives_of : {A : Type 0} (f : Given → A) (a : Answer) → f (result_unwrap_or a Nothing) ≡ gives f (f Nothing) a
gives_of f (Ok g) = refl
gives_of f (Err n) = refl

pub given_of : {A : Type 0} (f : Given → A) (a : Answer) (g : Given) → g ≡ result_unwrap_or a Nothing → (v : A) → v ≡ f g
    → v ≡ gives f (f Nothing) a
given_of f a g eg v ev = ev ∙ ap f eg ∙ gives_of f a

module _ (x : Call) (looks : among (7 ∷ []) x.kind ≡ false) (a : Answer) (n : ℕ) (en : n ≡ told a) where
  module _ (b m after left buf : List ℕ) (e : leaving (replied a buf) after left ≡ exported x b m) where
    pub silent_left : Silent x → leaving (plain n buf) after left ≡ exported x b m
    silent_left s =
        (λ j. leaving (plain (en j) buf) after left)
        ∙ (λ j.
        leaving (whole (e j).reply.number (none_first x looks _ s.gives b m (λ c. refl) j) (none_second x looks _ s.gives b m (λ c. refl) j)
        (none_count x looks _ s.gives b m (λ c. refl) j) (none_length x looks _ s.gives b m (λ c. refl) j)
        (e j).reply.buffer (e j).reply.shown) (e j).image (e j).memory)

    pub length_left : Length x → (k : ℕ) → k ≡ gives length 0 a
        → leaving (reply_of n nothing nothing 0 k buf) after left ≡ exported x b m
    length_left s k ek =
        (λ j. leaving (reply_of (en j) nothing nothing 0 (ek j) buf) after left)
        ∙ (λ j.
        leaving (whole (e j).reply.number (none_first x looks _ s.gives b m (λ c. refl) j) (none_second x looks _ s.gives b m (λ c. refl) j)
        (none_count x looks _ s.gives b m (λ c. refl) j) (e j).reply.length
        (e j).reply.buffer (e j).reply.shown) (e j).image (e j).memory)

    handles_left : TwoHandles x → (g h : HandleBytes) → g ≡ gives first no_handle a → h ≡ gives second no_handle a
        → leaving (reply_of n g h 0 0 buf) after left ≡ exported x b m
    handles_left s g h eg eh =
        (λ j. leaving (reply_of (en j) (eg j) (eh j) 0 0 buf) after left)
        ∙ (λ j.
        leaving (whole (e j).reply.number (e j).reply.first (e j).reply.second
        (none_count x looks _ s.gives b m (λ c. refl) j) (none_length x looks _ s.gives b m (λ c. refl) j)
        (e j).reply.buffer (e j).reply.shown) (e j).image (e j).memory)

    handle_left : OneHandle x → (g : HandleBytes) → g ≡ gives first no_handle a
        → leaving (reply_of n g nothing 0 0 buf) after left ≡ exported x b m
    handle_left s g eg =
        (λ j. leaving (reply_of (en j) (eg j) nothing 0 0 buf) after left)
        ∙ (λ j.
        leaving (whole (e j).reply.number (e j).reply.first (none_second x looks _ s.gives b m (λ c. refl) j)
        (none_count x looks _ s.gives b m (λ c. refl) j) (none_length x looks _ s.gives b m (λ c. refl) j)
        (e j).reply.buffer (e j).reply.shown) (e j).image (e j).memory)

  -- with every memory
  module _ (b after : List ℕ) (w : Gives x b (replied a []) after) where
    pub silent_any : Silent x → Gives x b (plain n []) after
    silent_any s m em = silent_left b m after m [] (w m em) s

    pub handle_any : OneHandle x → (g : HandleBytes) → g ≡ gives first no_handle a → Gives x b (reply_of n g nothing 0 0 []) after
    handle_any s g eg m em = handle_left b m after m [] (w m em) s g eg

    pub handles_any : TwoHandles x → (g h : HandleBytes) → g ≡ gives first no_handle a → h ≡ gives second no_handle a
        → Gives x b (reply_of n g h 0 0 []) after
    handles_any s g h eg eh m em = handles_left b m after m [] (w m em) s g h eg eh

-- weakening sees no store
pub weaken_any : (mask : ℕ) (b : List ℕ) (a : Answer)
    → ((s : Store) (m : List ℕ) → ended s m a [] ≡ aes_step (weakening_by mask b) (copy_of s m))
    → (n : ℕ) → n ≡ told a → (g : HandleBytes) → g ≡ gives first no_handle a → (k : ℕ) → k ≡ gives count 0 a
    → Always (weakening_by mask b) (reply_of n g nothing k 0 [])
weaken_any mask b a h n en g eg k ek s m =
    (λ j. record { copy = copy_of s m; reply = reply_of (en j) (eg j) nothing (ek j) 0 [] })
    ∙ (λ j.
    record {
      copy = (h s m j).copy;
      reply = count_reply (weakening_by mask b) (copy_of s m) a [] (ap (λ (o : Outcome). o.reply) (h s m)) (weaken_counts (weakening_by mask b).args) j;
    })
