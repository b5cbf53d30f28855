use Rattle.std.proofs.Common.{[], ◌∷◌, decimal, arith}
use Rattle.texts.specs.Texts.{bytes_of}
use Rattle.texts.proofs.Pushed.{pushed_next}
use Rattle.table_text.specs.Written.{field_text}
use Rattle.table_text.proofs.Texts.{field_short}
use Rattle.table_text.proofs.writing.push_field.Goals as goal

pub returns : goal.returns
unfolding field_text
returns c = record {
  after = pushed_next 160 (bytes_of c.args.line.now) (bytes_of c.push_number.new.self) (bytes_of c.push.new.self) (decimal c.args.v) (c.args.b ∷ []) c.push_number.ensures c.push.ensures;
  short = field_short c.args.v c.args.b (omega arith);
}
