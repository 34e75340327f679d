-- Document 01, "The handle": the bytes of a handle up to its selector, which all widths have alike.
--     node_bytes        the bytes of its node, which come first
--     local_at, password_at, selector_at    where the local number, the password and the selector begin
--     subselectors     the subselectors of a selector
-- Assumes nothing.
use Rattle.std.specs.Prelude.{ℕ, ◌+◌}
use Rattle.sizes.specs.Sizes.{password_bytes}

abbrev pub subselectors : ℕ
subselectors = 4

abbrev pub node_bytes : ℕ
node_bytes = 2

abbrev pub local_at : ℕ
local_at = node_bytes

abbrev pub password_at : ℕ
password_at = local_at + 1

abbrev pub selector_at : ℕ
selector_at = password_at + password_bytes
