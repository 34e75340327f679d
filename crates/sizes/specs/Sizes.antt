-- Document 01, "The store" and "The handle": how many of each there are.
--     nodes            the nodes, numbered from 0
--     clusters         the clusters of a node, their local numbers from 0
--     records          the clusters of all nodes
--     segments         the segments that a cluster's record has room for, numbered from 0
--     node_memory       the bytes of one node's shared memory
--     memory           the bytes of the lent slice: the memories of all nodes
--     password_bytes    the bytes of a password
-- Assumes nothing.
use Rattle.std.specs.Prelude.{ℕ}

abbrev pub nodes : ℕ
nodes = 4

abbrev pub clusters : ℕ
clusters = 8

abbrev pub records : ℕ
records = 32

abbrev pub segments : ℕ
segments = 16

abbrev pub node_memory : ℕ
node_memory = 4096

abbrev pub memory : ℕ
memory = 16384

abbrev pub password_bytes : ℕ
password_bytes = 16
