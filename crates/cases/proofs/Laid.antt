-- Every row of the table of layouts holds, by the test and the law of Proved.antt.
use mathlib.Core.List.{flatten}
use Rattle.base_lists.specs.Lists.{equal, up_from}
use Rattle.base_lists.proofs.Equal.{equal_eq}
use Rattle.base_lists.proofs.Table.{at}
use Rattle.base_crc8.specs.Crc8.{remainder_of, step_of}
use Rattle.base_buffers.specs.Buffer.{resized}
use Rattle.block_layout.specs.BigEndian.{be, unbe, unbe_from}
use Rattle.block_layout.specs.Cell.{cell_of}
use Rattle.block_layout.specs.Block.{sealed, block_of}
use Rattle.radio_telegram.specs.Frame.{frame_of}
use Rattle.radio_telegram.specs.Fields.{fields_of}
use Rattle.radio_erp2_model.specs.Reading.{check_of as erp2_check, fields_of as erp2_fields, read_of}
use Rattle.collector_model.specs.Header.{header_of}
use Rattle.collector_model.specs.Image.{image_block, image_with}
use Rattle.c_layout.specs.Frame.{frame_bytes}
use Rattle.c_codec.specs.Fields.{fields_bytes}
use Rattle.c_erp2.specs.Fields.{head_bytes, fields_bytes as erp2_fields_bytes}
use Rattle.c_burst.specs.Bytes.{reply_bytes}
use Rattle.c_archive.specs.Calls.{row_bytes}
use Rattle.cases.specs.Layouts.{layouts, EveryLayout}

-- each row's two sides are equal
pub every_layout : EveryLayout
unfolding flatten up_from remainder_of step_of resized be unbe unbe_from cell_of sealed block_of frame_of fields_of
    erp2_check
    erp2_fields read_of header_of image_block image_with frame_bytes fields_bytes head_bytes erp2_fields_bytes
    reply_bytes row_bytes
every_layout k h d = equal_eq _ _ (at (λ i c. equal c.got c.want) d layouts tt k h)
