use Rattle.std.proofs.Common.{◌+◌, ◌++◌, length, get_or, take, ap, ◌∙◌, arith}
use Rattle.std.specs.List.{flat_map}
use Rattle.std.proofs.lemmas.List.{take_all}
use Rattle.tables.specs.Tasks.{nobody}
use Rattle.table_text.specs.Written.{record_text}
use Rattle.table_text.proofs.Texts.{length_records_more, records_more}
use Rattle.table_text.proofs.Writes.{put_as, put_then}
use Rattle.table_text.proofs.writing.put_records.Goals as goal

pub put_bytes-at-requires : goal.put_bytes-at-requires
put_bytes-at-requires c =
    let e = length_records_more c.args.tasks.now c.loop-x.x-index (omega arith) in
    let l = ap length (c.bytes.ensures ∙ c.record_line.ensures.bytes) in
    omega arith

pub loop-x-preserved : goal.loop-x-preserved
loop-x-preserved c =
    let xs = c.args.tasks.now in
    let i = c.loop-x.x-index in
    let e = length_records_more xs i (omega arith) in
    let text = c.bytes.ensures ∙ c.record_line.ensures.bytes in
    let l = ap length text in
    let o = c.args.out.now in
    let a = c.loop-x.out in
    let p = c.put_bytes-at in
    let put = put_as a p.new.out c.loop-x.at p.result c.bytes.result.now (record_text (get_or xs i nobody)) text p.ensures in (
      put_as o p.new.out c.args.start p.result (flat_map record_text (take i xs) ++ record_text (get_or xs i nobody)) (flat_map record_text (take (i + 1) xs)) (records_more xs i (omega arith))
          (put_then o a p.new.out c.args.start c.loop-x.at p.result (flat_map record_text (take i xs)) (record_text (get_or xs i nobody)) c.loop-x.invariant.0 put),
      omega (arith, p.ensures.place),
    )

pub returns : goal.returns
returns c =
    let xs = c.args.tasks.now in
    let i = c.loop-x.x-index in
    put_as c.args.out.now c.loop-x.out c.args.start c.loop-x.at (flat_map record_text (take i xs)) (flat_map record_text xs) (ap (flat_map record_text) (take_all i xs (omega arith))) c.loop-x.invariant.0
