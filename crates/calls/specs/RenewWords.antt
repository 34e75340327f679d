-- Document 02, §6, "A refused password must not tell about the other mode", in words: the numbers of call 9. `renewing m a p`
-- is call 9 in the mode m with the handle a, of any width, and the new password p, as it is called; validation is asked
-- for by itself. On every store, by every conversion:
--     validated            the number that validation of the handle in the mode gets
--     Holder               the handle validates in the mode, and is primary
--     renewed              the number that call 9 gets
--     RenewInWords         which one that is:
--       above                that of validation, where validation is refused
--       weak                 10, where the handle validates and is not primary
--       old                  12 just where it is a holder's, and the new password is the current one of the mode named
--       done                 0 just where it is a holder's, and the new password is not
--       own                  a holder has the current password of the mode in the handle presented, and could tell from the
--                            call alone whether 12 is given
--     OldOnly              no call but 9 gets 12
-- Assumes nothing.
use Rattle.std.specs.Prelude.{◌≡◌, ◌≢◌, ◌↔◌, ℕ, List}
use Rattle.handle.specs.Handles.{Name, decoded}
use Rattle.store.specs.declared.Store.{Store}
use Rattle.calls.specs.Calls.{Call, new_password, renewing, validating}
use Rattle.calls.specs.Numbers.{number}
use Rattle.calls.specs.Words.{SamePassword, cluster_of, Current}
use Rattle.calls.specs.JoinWords.{Primary}

module _ (f : Name → List ℕ → ℕ → List ℕ) where
  module _ (m : ℕ) (a : List ℕ) (s : Store) (size : ℕ) where
    abbrev pub validated : ℕ
    validated = number f (validating m a) s size

    abbrev pub Holder : Type 0
    Holder = (validated ≡ 0) × Primary (decoded a)

    module _ (p : List ℕ) where
      abbrev pub renewed : ℕ
      renewed = number f (renewing m a p) s size

      pub record RenewInWords : Type 0 where
        pub above : validated ≢ 0 → renewed ≡ validated
        pub weak : validated ≡ 0 → ¬ Primary (decoded a) → renewed ≡ 10
        pub old : (renewed ≡ 12) ↔ (Holder × Current m (cluster_of (decoded a) s) p)
        pub done : (renewed ≡ 0) ↔ (Holder × ¬ Current m (cluster_of (decoded a) s) p)
        pub own : Holder → Current m (cluster_of (decoded a) s) p ↔ SamePassword p (decoded a).password

  abbrev pub OldOnly : Type 0
  OldOnly = (x : Call) (s : Store) (size : ℕ) → number f x s size ≡ 12 → x.kind ≡ new_password
