use Rattle.std.proofs.Common.{◌≡◌, ℕ, ◌+◌, ◌<◌, ◌≤◌, List, [], ◌++◌, length, get_or, take, sym, refl, ap, ◌∙◌, arith}
use Rattle.std.specs.List.{flat_map}
use Rattle.std.proofs.lemmas.List.{flat_map_more, length-append, take_more, take_all}
use Rattle.texts.specs.Texts.{pushed}
use Rattle.texts.proofs.Pushed.{pushed_all}
use Rattle.desk.specs.Printed.{numbers_header, number_record, numbers_text}
use Rattle.desk.proofs.outputs.numbers_text.Goals as goal

-- the records of one number more
one_more : (ns : List ℕ) (i : ℕ) → i < length ns → flat_map number_record (take (i + 1) ns) ≡ flat_map number_record (take i ns) ++ number_record (get_or ns i 0)
one_more ns i h = ap (flat_map number_record) (take_more ns i 0 h) ∙ sym (flat_map_more number_record [] (take i ns) (get_or ns i 0))

pub loop-number-init : goal.loop-number-init
loop-number-init c = (c.push_bytes.ensures ∙ ap (λ l. pushed 4352 l numbers_header) c.new-page.ensures ∙ pushed_all 4352 [] numbers_header (omega arith), omega arith)

pub loop-number-preserved : goal.loop-number-preserved
loop-number-preserved c =
    let ns = c.args.numbers.now in
    let i = c.loop-number.number-index in
    let before = flat_map number_record (take i ns) in
    let more = one_more ns i c.loop-number-test.true in
    let short : length (number_record (get_or ns i 0)) ≤ 12 = c.number_line.ensures.short in
    let low = c.loop-number.invariant.1 in
    let few = c.requires in
    let in_List = c.loop-number-test.true in
    let long = length-append before (number_record (get_or ns i 0)) in
    let long' : length (flat_map number_record (take (i + 1) ns)) ≡ length before + length (number_record (get_or ns i 0)) = ap length more ∙ long in (
      c.push_bytes-in-loop-number.ensures
          ∙ ap (λ l. pushed 4352 l c.bytes.result.now) c.loop-number.invariant.0
          ∙ ap (pushed 4352 (numbers_header ++ before)) (c.bytes.ensures ∙ c.number_line.ensures.bytes)
          ∙ pushed_all 4352 (numbers_header ++ before) (number_record (get_or ns i 0)) (let h = length-append numbers_header before in let six : length numbers_header ≡ 6 = refl in omega arith)
          ∙ flat_map_more number_record numbers_header (take i ns) (get_or ns i 0)
          ∙ ap (λ xs. numbers_header ++ flat_map number_record xs) (sym (take_more ns i 0 in_List)),
      omega arith,
    )

pub returns : goal.returns
unfolding numbers_text
returns c =
    c.loop-number.invariant.0
    ∙ ap (λ xs. numbers_header ++ flat_map number_record xs) (take_all c.loop-number.number-index c.args.numbers.now c.loop-number-test.false)
