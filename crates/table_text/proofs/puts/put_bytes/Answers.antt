use Rattle.std.proofs.Common.{rules, arith}
use Rattle.std.proofs.lemmas.Slice.{overwrites}
use Rattle.table_text.proofs.puts.put_bytes.Goals as goal

pub returns : goal.returns
returns c =
    let e = c.copy_from_slice.ensures.after in
    record { place = omega arith; front = search (rules, overwrites); back = search (rules, overwrites) }
