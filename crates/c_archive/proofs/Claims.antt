-- The claims on rows as other languages hold them.
use mathlib.Core.Path.{◌≡◌, refl, ap, ◌∙◌}
use mathlib.Core.Bool.{Bool, true, false, not}
use lib.Dec.{eqb}
use lib.ListN.{length}
use borrow.Author.Tests.{eqb-true}
use Rattle.radio_erp1.specs.Subtelegram.{max_length, check_of}
use Rattle.radio_erp1.proofs.Checks.{check_facts}
use Rattle.base_buffers.specs.Buffer.{resized}
use Rattle.base_buffers.proofs.Buffer.{resized-padded, resized-back}
use Rattle.c_layout.specs.Frame.{frame_bytes, flag_byte}
use Rattle.c_archive.specs.Calls.{row_bytes}
use Rattle.c_archive.specs.Claims.{RowGivenAgain}

flag_back : (b : Bool) → not (eqb (flag_byte b) 0) ≡ b
flag_back true = refl
flag_back false = refl

pub given_again : RowGivenAgain
unfolding row_bytes frame_bytes
given_again r v =
    let short = (check_facts r.bytes (eqb-true (check_of r.bytes) 0 v)).high in
    let bytes =
    ap (resized (length r.bytes)) (resized-padded max_length r.bytes short)
    ∙ resized-back max_length r.bytes short in
    let loose = flag_back r.loose in
    λ j. record { bytes = bytes j; time = r.time; loose = loose j }
