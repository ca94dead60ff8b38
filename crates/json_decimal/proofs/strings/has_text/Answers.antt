use Rattle.std.proofs.Common.{false}
use Rattle.json_decimal.proofs.Spelled.{wrong_run, no_end, last_run, bad_escape, wrong_character, goes_further, gets_shorter}
use Rattle.json_decimal.proofs.strings.has_text.Goals as goal

pub returns-in_default : goal.returns-in_default
returns-in_default c =
    c.loop-behind.invariant false (wrong_run c.loop-behind.rest.now c.loop-behind.left.now
    c.plain_len.result c.plain_len.ensures.value
    (rw (← c.split_at.ensures.front) c.in_default.ensures))

pub returns-in-Quote : goal.returns-in-Quote
returns-in-Quote c =
    c.loop-behind.invariant c.has_none.result
    (last_run c.loop-behind.rest.now c.loop-behind.left.now c.plain_len.result
    c.plain_len.ensures.value c.in-Some.behind.now c.in-Quote.field-0.now c.has_none.result
    (rw (← c.split_at.ensures.front) c.in-Some.ensures)
    (rw (← c.split_at.ensures.back) c.in-Quote.ensures) c.has_none.ensures.none
    c.has_none.ensures.some)

pub returns-in_default-escape : goal.returns-in_default-escape
returns-in_default-escape c =
    c.loop-behind.invariant false (bad_escape c.loop-behind.rest.now c.loop-behind.left.now
    c.plain_len.result c.plain_len.ensures.value c.in-Escape.after.now
    (rw (← c.split_at.ensures.back) c.in-Escape.ensures) c.in_default-escape.ensures.value)

pub returns-in_default-after_character : goal.returns-in_default-after_character
returns-in_default-after_character c =
    c.loop-behind.invariant false (wrong_character c.loop-behind.rest.now c.loop-behind.left.now
    c.plain_len.result c.plain_len.ensures.value c.in-Escape.after.now c.in-Some-escape.after.now
    c.in-Some.behind.now c.in-Some-escape.code (rw (← c.split_at.ensures.front) c.in-Some.ensures)
    (rw (← c.split_at.ensures.back) c.in-Escape.ensures) c.in-Some-escape.ensures.value
    c.in_default-after_character.ensures)

pub loop-behind-smaller : goal.loop-behind-smaller
loop-behind-smaller c =
    gets_shorter c.loop-behind.rest.now c.loop-behind.left.now c.plain_len.result
    c.plain_len.ensures.value c.in-Escape.after.now c.in-Some-escape.after.now c.in-Some-escape.code
    (rw (← c.split_at.ensures.back) c.in-Escape.ensures) c.in-Some-escape.ensures.value

pub loop-behind-preserved : goal.loop-behind-preserved
loop-behind-preserved c b tells =
    c.loop-behind.invariant b (goes_further c.loop-behind.rest.now c.loop-behind.left.now
    c.plain_len.result c.plain_len.ensures.value c.in-Escape.after.now c.in-Some-escape.after.now
    c.in-Some.behind.now c.in-Some-after_character.behind.now c.in-Some-escape.code b
    (rw (← c.split_at.ensures.front) c.in-Some.ensures)
    (rw (← c.split_at.ensures.back) c.in-Escape.ensures) c.in-Some-escape.ensures.value
    c.in-Some-after_character.ensures tells)

pub returns-in-Neither : goal.returns-in-Neither
returns-in-Neither c =
    c.loop-behind.invariant false (no_end c.loop-behind.rest.now c.loop-behind.left.now
    c.plain_len.result c.plain_len.ensures.value
    (rw (← c.split_at.ensures.back) c.in-Neither.ensures))
