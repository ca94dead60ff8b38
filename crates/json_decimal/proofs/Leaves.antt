-- What is read of a value with nothing inside it.
use Rattle.std.proofs.Common.{◌≡◌, ℕ, suc, ◌+◌, ◌-◌, ◌<◌, ◌≤◌, List, [], ◌∷◌, ◌++◌, length, take, drop, Bool, true, false, Option, Some, None, refl, sym, subst, ap, ◌∙◌, arith, length-drop}
use Rattle.std.specs.Str.{IsUtf8}
use Rattle.std.specs.Char.{encode_utf8}
use Rattle.json_decimal.specs.Ascii.{quotation_mark}
use Rattle.json_decimal.specs.JsonValue.{JsonValue, number, words}
use Rattle.json_decimal.specs.Scan.{◌>>=◌, Fails, skip, after, after_byte}
use Rattle.json_decimal.specs.Numbers.{after_number, number_at}
use Rattle.std.proofs.lemmas.List.{take_rest}
use Rattle.json_decimal.specs.Strings.{with_text, string_at, behind_string, IsPlain, plain_len, run_end, RunEnd, quote, escape, neither, escape_at, IsPlainAscii}
use Rattle.json_decimal.specs.Reading.{literal, leaf, quoted_at}
use Rattle.std.specs.Prelude.{IsTrue}
use Rattle.json_decimal.specs.Entries.{form_from, value_as, value_from, number_from, inside_as, inside_of, read_or_none, is_extent}
use Rattle.json_decimal.specs.declared.form.JsonForm.TheVariants as forms
use Rattle.json_decimal.proofs.Extents.{number_extent, plain_extent}
use Rattle.json_decimal.proofs.SoundNumber.{number_at_shrinks}
use Rattle.json_decimal.specs.ReadsInto.{EndsIn, IsLeaf, AddsEntries, IsReadInto, entry, one}
use Rattle.json_decimal.specs.declared.entry.Entry.{Entry}
use Rattle.json_decimal.specs.declared.error.JsonError.{JsonError}
use Rattle.json_decimal.specs.declared.error.JsonError.TheVariants as errors
use Rattle.json_decimal.proofs.Steps.{after_byte_is, after_byte_shorter}
use Rattle.json_decimal.proofs.Runs.{string_at_shrinks, broken, closes, stops, no_escape, goes_on, falls}
use Rattle.json_decimal.proofs.SoundString.{IsEnd, end_is}
use Rattle.json_decimal.proofs.Added.{adds_leaf}

pub literal_is : (word spelled rest : List ℕ) (v : JsonValue) → Some rest ≡ after word spelled
    → literal word v spelled ≡ Some (v, skip rest)
literal_is word spelled rest v e =
    ap (λ (r : Option (List ℕ)). r >>= λ rest. Some (v, skip rest)) (sym e)

pub leaf_is : (f : List ℕ → JsonValue) (read : Option (List ℕ × List ℕ)) (text rest : List ℕ)
    → read ≡ Some (text, rest) → leaf f read ≡ Some (f text, skip rest)
leaf_is f read text rest e = ap (leaf f) e

number_is : (bs rest : List ℕ) → Some rest ≡ after_number bs
    → number_at bs ≡ Some (take (length bs - length rest) bs, rest)
number_is bs rest e =
    ap (λ (r : Option (List ℕ)). r >>= λ rest. Some (take (length bs - length rest) bs, rest))
    (sym e)

number_some : (bs rest : List ℕ) → number_at bs ≡ Some (take (length bs - length rest) bs, rest)
    → 0 < length bs
number_some bs rest h =
    omega (arith, number_at_shrinks bs (take (length bs - length rest) bs, rest) h)

pub number_is_read : (bytes bs rest : List ℕ) (extent : ℕ) (old new : List Entry) → EndsIn bytes bs
    → form_from bs ≡ forms.Number
    → Some rest ≡ after_number bs → extent ≡ length bs - length rest
    → new ≡ old ++ entry bytes bs extent ∷ []
    → IsReadInto one bytes old new rest (leaf number (number_at bs))
number_is_read bytes bs rest extent old new h form e long all =
    let read : number_at bs ≡ Some (take (length bs - length rest) bs, rest) =
    number_is bs rest e in
    let from : number_from bs ≡ take (length bs - length rest) bs = ap read_or_none read in
    let is : value_from bs [] ≡ number (take (length bs - length rest) bs) =
    ap (λ f. value_as f bs []) form ∙ ap number from in
    let told : IsTrue (is_extent forms.Number bs extent) =
    number_extent bs extent (omega arith) (from ∙ ap (λ (n : ℕ). take n bs) (sym long)) in
    let is_leaf : IsLeaf bs extent = record {
      nothing = ap (λ f. inside_as f extent) form;
      told = subst (λ f. IsTrue (is_extent f bs extent)) (sym form) told;
    } in
    record {
      what = number (take (length bs - length rest) bs);
      is_read = leaf_is number (number_at bs) (take (length bs - length rest) bs) rest read;
      adds =
          subst (λ v. AddsEntries bytes old new (v ∷ [])) is
          (adds_leaf bytes bs extent old new h (number_some bs rest read) is_leaf all);
    }

-- the text of the string that these bytes are behind
pub record Behind (bs rest : List ℕ) : Type 0 where
  pub text : List ℕ
  pub read : string_at bs ≡ Some (text, rest)

behind_some : (bs rest : List ℕ) (r : Option (List ℕ × List ℕ)) → string_at bs ≡ r
    → Some rest ≡ (r >>= λ x. Some x.1) → Behind bs rest
behind_some bs rest None e h = cc
behind_some bs rest (Some x) e h =
    let k : x.1 ≡ rest =
    cc in record { text = x.0; read = e ∙ ap (λ (s : List ℕ). Some (x.0, s)) k }

pub behind_read : (bs rest : List ℕ) → Some rest ≡ behind_string bs → Behind bs rest
behind_read bs rest h = behind_some bs rest (string_at bs) refl h

pub refused : {Y : Type 0} (e : JsonError) (read : Option Y) → e ≡ errors.NotJson → read ≡ None
    → Fails e read
refused e read h k = subst (λ e. Fails e read) (sym h) k

pub quoted_within : (bs within rest : List ℕ) → Some within ≡ after_byte quotation_mark bs
    → Some rest ≡ behind_string within → length rest ≤ length bs
quoted_within bs within rest e h =
    let b : Behind within rest = behind_read within rest h in
    omega (
      arith,
      after_byte_shorter quotation_mark bs within (sym e),
      string_at_shrinks within
          (b.text, rest) b.read,
    )

-- a string that stands for itself has its extent, and any other none
words_extent : (within rest : List ℕ) (extent : ℕ) (plain : Bool)
    → (plain ≡ true → IsPlain within rest)
    → (plain ≡ true → extent ≡ suc (length within) - length rest) → (plain ≡ false → extent ≡ 0)
    → IsTrue (is_extent forms.Words (quotation_mark ∷ within) extent)
words_extent within rest extent false p t f =
    subst (λ (n : ℕ). IsTrue (is_extent forms.Words (quotation_mark ∷ within) n)) (sym (f refl))
    refl
words_extent within rest extent true p t f =
    let read : IsPlain within rest = p refl in
    let room : length rest < length within =
    string_at_shrinks within (take (length within - (length rest + 1)) within, rest) read in
    let long : extent ≡ suc (length within) - length rest = t refl in
    let count : length within - (length rest + 1) ≡ extent - 2 = omega arith in
    plain_extent (quotation_mark ∷ within) extent (omega arith) (omega arith)
    (ap read_or_none read ∙ ap (λ (n : ℕ). take n within) count)

-- the same of a number that ends within a block
pub short_number_is_read : (bytes bs rest : List ℕ) (len : ℕ) (old new : List Entry)
    → EndsIn bytes bs → form_from bs ≡ forms.Number
    → after_number bs ≡ Some (drop len bs) → len ≤ length bs
    → rest ≡ take (length bs - len) (drop len bs)
    → new ≡ old ++ entry bytes bs len ∷ []
    → IsReadInto one bytes old new rest (leaf number (number_at bs))
short_number_is_read bytes bs rest len old new h form read within is all =
    let behind : rest ≡ drop len bs = is ∙ take_rest bs len in
    number_is_read bytes bs rest len old new h form (ap Some behind ∙ sym read)
    (omega (arith, ap length behind, length-drop len bs)) all

pub quoted_is_read : (bytes bs within rest : List ℕ) (extent : ℕ) (plain : Bool)
    (old new : List Entry) → EndsIn bytes bs
    → Some within ≡ after_byte quotation_mark bs → Some rest ≡ behind_string within
    → (plain ≡ true → IsPlain within rest)
    → (plain ≡ true → extent ≡ length bs - length rest) → (plain ≡ false → extent ≡ 0)
    → new ≡ old ++ entry bytes bs extent ∷ []
    → IsReadInto one bytes old new rest (leaf words (quoted_at bs))
quoted_is_read bytes bs within rest extent plain old new h e b p t f all =
    let r : Behind within rest = behind_read within rest b in
    let is : bs ≡ quotation_mark ∷ within = after_byte_is quotation_mark bs within (sym e) in
    let read : quoted_at bs ≡ Some (r.text, rest) =
    ap (λ (r : Option (List ℕ)). r >>= λ bs. string_at bs) (sym e) ∙ r.read in
    let spelled : value_from bs [] ≡ words r.text =
    ap (λ (s : List ℕ). value_from s []) is
    ∙ ap (λ (r : Option (List ℕ × List ℕ)). words (read_or_none r)) r.read in
    let told : IsTrue (is_extent forms.Words (quotation_mark ∷ within) extent) =
    words_extent within rest extent plain p
    (λ q. t q ∙ ap (λ (s : List ℕ). length s - length rest) is) f in
    let is_leaf : IsLeaf bs extent = record {
      nothing = ap (λ (s : List ℕ). inside_of s extent) is;
      told = subst (λ (s : List ℕ). IsTrue (is_extent (form_from s) s extent)) (sym is) told;
    } in
    record {
      what = words r.text;
      is_read = leaf_is words (quoted_at bs) r.text rest read;
      adds =
          subst (λ v. AddsEntries bytes old new (v ∷ [])) spelled
          (adds_leaf bytes bs extent old new h (omega (arith, ap length is)) is_leaf all);
    }

-- the same of a string that ends within a block
pub short_quoted_is_read : (bytes bs within rest : List ℕ) (len : ℕ) (old new : List Entry)
    → EndsIn bytes bs
    → Some within ≡ after_byte quotation_mark bs → IsPlainAscii within len
    → rest ≡ take (length within - (len + 1)) (drop (len + 1) within)
    → new ≡ old ++ entry bytes bs (len + 2) ∷ []
    → IsReadInto one bytes old new rest (leaf words (quoted_at bs))
short_quoted_is_read bytes bs within rest len old new h e s behind all =
    let is : bs ≡ quotation_mark ∷ within = after_byte_is quotation_mark bs within (sym e) in
    let at : rest ≡ drop (len + 1) within = behind ∙ take_rest within (len + 1) in
    let left : length rest + len + 1 ≡ length within =
    omega (arith, ap length at, length-drop (len + 1) within, s.within) in
    let all_of : len ≡ length within - (length rest + 1) = omega arith in
    let read : string_at within ≡ Some (take len within, rest) =
    s.read ∙ ap (λ (r : List ℕ). Some (take len within, r)) (sym at) in
    quoted_is_read bytes bs within rest (len + 2) true old new h e
    (sym (ap (λ (r : Option (List ℕ × List ℕ)). r >>= λ x. Some x.1) read))
    (λ _. read ∙ ap (λ (n : ℕ). Some (take n within, rest)) all_of)
    (λ _. omega (arith, ap length is)) (λ q. cc) all

-- the strings that are read run by run
pub record IsPast (bytes rest : List ℕ) (plain : Bool) : Type 0 where
  pub text : List ℕ
  pub so_far : with_text text (string_at rest) ≡ string_at bytes
  pub first : plain ≡ true → (rest ≡ bytes) × (text ≡ [])

with_nothing : (r : Option (List ℕ × List ℕ)) → with_text [] r ≡ r
with_nothing None = refl
with_nothing (Some x) = refl

pub past_nothing : (bytes : List ℕ) → IsPast bytes bytes true
past_nothing bytes =
    record { text = []; so_far = with_nothing (string_at bytes); first = λ h. (refl, refl) }

quote_is : (bs more : List ℕ) → quote more ≡ run_end bs → bs ≡ quotation_mark ∷ more
quote_is bs more e =
    let P : RunEnd → Type 0 =
    IsEnd bs in let k : IsEnd bs (quote more) = subst P (sym e) (end_is bs) in k

pub plain_is : (bs more : List ℕ) (n : ℕ) → quote more ≡ run_end (drop n bs)
    → string_at bs ≡ Some (take n bs, more) → IsPlain bs more
plain_is bs more n e read =
    let d : drop n bs ≡ quotation_mark ∷ more = quote_is (drop n bs) more e in
    let count : n ≡ length bs - (length more + 1) = omega (arith, ap length d, length-drop n bs) in
    read ∙ ap (λ (n : ℕ). Some (take n bs, more)) count

-- one run more
module _ (bytes rest : List ℕ) (plain : Bool) (n : ℕ) (is_len : n ≡ plain_len rest)
    (past : IsPast bytes rest plain) where
  pub past_broken : (IsUtf8 (take n rest) → ⊥) → None ≡ behind_string bytes
  past_broken unfit =
      sym (ap (λ (r : Option (List ℕ × List ℕ)). r >>= λ x. Some x.1)
      (broken past.text rest n is_len (string_at bytes) past.so_far unfit))

  pub past_stops : IsUtf8 (take n rest) → neither ≡ run_end (drop n rest)
      → None ≡ behind_string bytes
  past_stops u e =
      sym (ap (λ (r : Option (List ℕ × List ℕ)). r >>= λ x. Some x.1)
      (stops past.text rest n is_len (string_at bytes) past.so_far u e))

  pub past_no_escape : (more : List ℕ) → IsUtf8 (take n rest) → escape more ≡ run_end (drop n rest)
      → escape_at more ≡ None → None ≡ behind_string bytes
  past_no_escape more u e f =
      sym (ap (λ (r : Option (List ℕ × List ℕ)). r >>= λ x. Some x.1)
      (no_escape past.text rest n is_len (string_at bytes) past.so_far more u e f))

  pub past_quote : (more : List ℕ) → IsUtf8 (take n rest) → quote more ≡ run_end (drop n rest)
      → Some more ≡ behind_string bytes
  past_quote more u e =
      sym (ap (λ (r : Option (List ℕ × List ℕ)). r >>= λ x. Some x.1)
      (closes past.text rest n is_len (string_at bytes) past.so_far more u e))

  pub past_plain : (more : List ℕ) → IsUtf8 (take n rest) → quote more ≡ run_end (drop n rest)
      → plain ≡ true → IsPlain bytes more
  past_plain more u e h =
      let first : (rest ≡ bytes) × (past.text ≡ []) = past.first h in
      let read : string_at bytes ≡ Some (past.text ++ take n rest, more) =
      closes past.text rest n is_len (string_at bytes) past.so_far more u e in
      let here : string_at bytes ≡ Some (take n bytes, more) =
      read
      ∙ ap (λ (t : List ℕ). Some (t ++ take n rest, more)) first.1
      ∙ ap (λ (t : List ℕ). Some (take n t, more)) first.0 in
      plain_is bytes more n (e ∙ ap (λ (t : List ℕ). run_end (drop n t)) first.0) here

  pub past_on : (more after : List ℕ) (c : ℕ) → IsUtf8 (take n rest)
      → escape more ≡ run_end (drop n rest) → escape_at more ≡ Some (c, after)
      → IsPast bytes after false
  past_on more after c u e f = record {
    text = (past.text ++ take n rest) ++ encode_utf8 c;
    so_far = goes_on past.text rest n is_len (string_at bytes) past.so_far more after c u e f;
    first = λ h. cc;
  }

  pub past_falls : (more after : List ℕ) (c : ℕ) → escape more ≡ run_end (drop n rest)
      → escape_at more ≡ Some (c, after) → length after < length rest
  past_falls more after c e f =
      falls past.text rest n is_len (string_at bytes) past.so_far more after c e f
