-- `c_codec::put_fields` meets its contract: a step for each byte that is stored and each part that is lent.
use Rattle.std.specs.Prelude.{IfSome}
use mathlib.Core.Path.{◌≡◌, ◌∙◌, ap}
use Rattle.c_layout.specs.Frame.{flag_byte}
use native.Mathlib.Omega.{arith}
use borrow.Author.Rules.{rules}
use lib.ListN.{length}
use Rattle.base_buffers.specs.Buffer.{resized}
use Rattle.base_buffers.proofs.Segments.{Writing, packed, begin, begun_length, within, store, lend_sized, done}
use Rattle.c_codec.proofs.Calls.{fields_are}
use Rattle.c_codec.proofs.put_fields.Lts as lts
use Rattle.c_codec.proofs.put_fields.Reads as reads
use Rattle.c_codec.proofs.put_fields.Tie as tie
use Rattle.c_codec.proofs.put_fields.Goals as goal

-- states on the way
abbrev After-flag_byte : Type 0
After-flag_byte = lts.After-flag_byte tie.the-claims reads.Pre reads.Post

abbrev After-put_bytes : Type 0
After-put_bytes = lts.After-put_bytes tie.the-claims reads.Pre reads.Post

abbrev After-put_bytes-2 : Type 0
After-put_bytes-2 = lts.After-put_bytes2 tie.the-claims reads.Pre reads.Post

abbrev After-put_bytes-3 : Type 0
After-put_bytes-3 = lts.After-put_bytes3 tie.the-claims reads.Pre reads.Post

-- what is written, after each step
abbrev step1 : After-flag_byte → Writing 4
step1 c =
    let a = c.args in
    let long = c.requires.0 in
    packed
    (store
    (store (store (store (begin a.out.now) a.t.rorg (omega (arith, long))) a.t.len (omega (arith, long)))
    c.flag_byte.result (omega (arith, long)))
    a.t.status
    (omega (arith, long)))

abbrev step2 : After-put_bytes → Writing 8
step2 c =
    let a = c.args in
    packed
    (lend_sized (step1 c.before.before.before).begun _ (λ w. resized w c.unwrap_or-destid.result) 8 c.put_bytes.ensures
    c.put_bytes.auto.out (omega arith) (omega (arith, c.requires.0)))

abbrev step3 : After-put_bytes-2 → Writing 12
step3 c =
    let c_back3 = c.before.before.before in
    let a = c.args in
    packed
    (lend_sized (step2 c_back3.before.before.before).begun _ (λ w. resized w a.t.txid) 12 c.put_bytes-2.ensures
    c.put_bytes-2.auto.out (omega arith) (omega (arith, c.requires.0)))

abbrev step4 : After-put_bytes-3 → Writing 26
step4 c =
    let c_back3 = c.before.before.before in
    let a = c.args in
    packed
    (lend_sized (step3 c_back3.before.before.before).begun _ (λ w. resized w a.t.payload) 26 c.put_bytes-3.ensures
    c.put_bytes-3.auto.out (omega arith) (omega (arith, c.requires.0)))

pub returns : goal.returns
returns c =
    let t = c.args.t in
    let destid : IfSome t.destid (λ d. length d ≡ 4) = search rules in
    let txid : length t.txid ≡ 4 = search rules in
    let payload : length t.payload ≡ 14 = search rules in
    done (step4 c.before.before.before).begun c.requires.0
    ∙ fields_are t _ _
    (c.flag_byte.ensures ∙ ap flag_byte c.is_some.ensures) c.unwrap_or-destid.ensures
    (record { payload = payload; destid = destid; txid = txid })

pub slice_bounds-put_bytes-end : goal.slice_bounds-put_bytes-end
slice_bounds-put_bytes-end c = within (step1 c).begun 8 (omega (arith, c.requires.0))

pub slice_bounds-put_bytes-end-3 : goal.slice_bounds-put_bytes-end-3
slice_bounds-put_bytes-end-3 c = within (step2 c.before.before.before).begun 12
    (omega (arith, c.requires.0))

pub slice_bounds-put_bytes-end-5 : goal.slice_bounds-put_bytes-end-5
slice_bounds-put_bytes-end-5 c = within (step3 c.before.before.before).begun 26
    (omega (arith, c.requires.0))

pub shape_of-out : goal.shape_of-out
shape_of-out c = begun_length (step4 c.before.before.before).begun
