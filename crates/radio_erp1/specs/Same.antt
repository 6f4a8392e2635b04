-- When two subtelegrams are the same telegram (document 01, "Merging").
use Rattle.std.specs.Prelude.{ℕ, Bool, ◌&&◌, List, length, ◌==◌}
use Rattle.base_lists.specs.Lists.{equal}
use Rattle.radio_erp1.specs.Status.{upper_of}
use Rattle.radio_erp1.specs.Subtelegram.{status_of, before_status}

-- equal length, and equal in every byte except HASH and the level: every byte before STATUS, and STATUS without its
-- level
unfoldable pub is_same : List ℕ → List ℕ → Bool
is_same a b =
    (length a == length b)
    && (upper_of (status_of a) == upper_of (status_of b)
    && equal (before_status a) (before_status b))
