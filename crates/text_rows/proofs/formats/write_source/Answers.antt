-- `text_rows::formats::write_source` meets its contract: the identity has four bytes.
use mathlib.Core.Path.{◌≡◌}
use native.Mathlib.Omega.{arith}
use lib.ListN.{length}
use borrow.Author.Rules.{rules}
use Rattle.text_rows.specs.Formats.{source_after}
use Rattle.base_buffers.proofs.Stores.{loosened, then}
use Rattle.text_rows.proofs.formats.write_source.Goals as goal

pub returns : goal.returns
unfolding source_after
returns c =
    let four : length c.args.source.txid ≡ 4 = search rules in
    loosened (then (then c.write_hex_after-a.ensures c.write_hex_after-b.ensures) c.write_count.ensures) (omega arith)
