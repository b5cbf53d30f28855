use Rattle.std.proofs.Common.{◌≡◌, ℕ, ◌<◌, ◌≤◌, List, [], ◌∷◌, ◌++◌, length, drop, Ok, Err, sym, refl, ap, ◌∙◌, arith}
use Rattle.std.specs.List.{flat_map}
use Rattle.std.proofs.lemmas.List.{take-append-drop}
use Rattle.std.proofs.lemmas.Bool.{cond-true, cond-false, le-leb, lt-leb}
use Rattle.refusals.specs.declared.kinds.WriteRefusal.TheVariants.{BufferTooShort}
use Rattle.tables.specs.Tables.{tasks_of}
use Rattle.table_text.specs.Puts.{Put}
use Rattle.table_text.specs.Reading.{header}
use Rattle.table_text.specs.Written.{record_text, table_text, write_answer, buffer_after}
use Rattle.table_text.proofs.RoundTrip.{reads_back}
use Rattle.table_text.proofs.Writes.{put_then, put_as}
use Rattle.table_text.proofs.writing.write.Goals as goal

-- a text that stands at the front of a buffer
put_whole : (text before after : List ℕ) (n : ℕ) → length text ≤ length before → Put before after 0 n text → (Ok n ≡ write_answer text before) × (after ≡ buffer_after text before)
put_whole text before after n fits put =
    let t = le-leb (length text) (length before) fits in
    let here : n ≡ length text = put.place ∙ omega arith in (
      ap Ok here ∙ sym (cond-true _ _ _ t),
      sym (take-append-drop n after) ∙ ap (λ l. l ++ drop n after) put.front ∙ ap (λ r. text ++ r) put.back ∙ ap (λ k. text ++ drop k before) here ∙ sym (cond-true _ _ _ t),
    )

-- a buffer that is too short
too_short : (text before : List ℕ) → length before < length text → (Err BufferTooShort ≡ write_answer text before) × (before ≡ buffer_after text before)
too_short text before h =
    let t = lt-leb (length text) (length before) h in
    (sym (cond-false _ _ _ t), sym (cond-false _ _ _ t))

pub returns-then-n-out : goal.returns-then-n-out
returns-then-n-out c =
    let t = c.args.table.now in
    let ts = tasks_of t in
    let l : c.text_length-n.result ≡ length (table_text ts) = c.text_length-n.ensures.value ∙ ap (λ us. length (table_text us)) c.tasks.ensures in
    let r = too_short (table_text ts) c.args.out.now (omega arith) in
    record { answer = r.0; buffer_after = r.1; reads_back = reads_back t; same_if_refused = refl }

pub returns : goal.returns
returns c =
    let t = c.args.table.now in
    let ts = tasks_of t in
    let o = c.args.out.now in
    let a = c.put_bytes-headed in
    let b = c.put_bytes-start in
    let p = c.put_records in
    let l : c.text_length-n.result ≡ length (table_text ts) = c.text_length-n.ensures.value ∙ ap (λ us. length (table_text us)) c.tasks.ensures in
    let headed = put_then o a.new.out b.new.out 0 a.result b.result header (13 ∷ 10 ∷ []) a.ensures b.ensures in
    let records = put_as b.new.out p.new.out b.result p.result (flat_map record_text c.tasks-2.result.now) (flat_map record_text ts) (ap (flat_map record_text) c.tasks-2.ensures) p.ensures in
    let whole = put_then o b.new.out p.new.out 0 b.result p.result (header ++ (13 ∷ 10 ∷ [])) (flat_map record_text ts) headed records in
    let r = put_whole (table_text ts) o p.new.out p.result (omega arith) whole in
    record { answer = r.0; buffer_after = r.1; reads_back = reads_back t; same_if_refused = tt }
