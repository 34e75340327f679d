-- What the core of a call is given instead of a store, and what it leaves.
--     Given sd h c s m b    of the records s, a memory m and a handle's bytes b: whether they are sound is sd, the handle
--                           that the bytes hold is h, the record of its cluster is c; the first record where there is no
--                           such place
--     OpenedFrom o s m b     the same of what was opened, as the code hands it on
--     record_found h         the number of that record
--     GivenPlace sd c s m v l    the same of a call that names node v and local number l itself
--     put h c s             the records s with the record of the cluster that h names replaced
-- Assumes nothing.
use Rattle.std.specs.Prelude.{◌≡◌, ℕ, Bool, List, length}
use Rattle.handle.specs.declared.Handle.{Handle}
use Rattle.handle.specs.Handles.{node_of, decoded}
use Rattle.store.specs.declared.Cluster.{Cluster}
use Rattle.store.specs.declared.Store.{Store}
use Rattle.store.specs.Records.{cluster_at, put_record, record_at}
use Rattle.store.specs.Sound.{sound}
use Rattle.refusals.specs.declared.Opened.{Opened}

abbrev pub record_found : Handle → ℕ
record_found h = record_at (node_of h) h.local

pub record Given (sd : Bool) (h : Handle) (c : Cluster) (s : Store) (m b : List ℕ) : Type 0 where
  pub sound : sd ≡ sound s (length m)
  pub handle : h ≡ decoded b
  pub found : c ≡ cluster_at s (record_found h)

abbrev pub OpenedFrom : Opened → Store → List ℕ → List ℕ → Type 0
OpenedFrom o = Given o.sound o.handle o.cluster

pub record GivenPlace (sd : Bool) (c : Cluster) (s : Store) (m : List ℕ) (node local : ℕ) : Type 0 where
  pub sound : sd ≡ sound s (length m)
  pub found : c ≡ cluster_at s (record_at node local)

abbrev pub put : Handle → Cluster → Store → Store
put h c s = put_record s (record_found h) c
