-- Joining the parts of STATUS undoes its splitting.
use Rattle.std.proofs.Common.{◌≡◌, ◌/◌, Bool, true, false, eqb, refl, arith, eqb-true}
use borrow.Author.Tests.{eqb-false}
use Rattle.radio_erp1.specs.Status.{split_of, join_of}
use Rattle.radio_erp1.specs.Claims.{JoinSplit}

pub join-split : JoinSplit
join-split b h = go (eqb (b / 128) 1) refl
  where
    go : (t : Bool) → eqb (b / 128) 1 ≡ t → join_of (split_of b) ≡ b
    go true e = rw e (omega (arith, eqb-true (b / 128) 1 e))
    go false e = rw e (omega (arith, eqb-false (b / 128) 1 e))
