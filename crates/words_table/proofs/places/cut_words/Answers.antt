use Rattle.std.proofs.Common.{◌∙◌, [], ◌∷◌, ap₂}
use Rattle.clap.specs.Simple.{app_of}
use Rattle.clap.specs.Walk.{Text}
use Rattle.words_table.specs.Commands.{texts}
use Rattle.words_table.proofs.CutWords.{cut_words_found, cut_words_refused}
use Rattle.words_table.proofs.Given.{is_given, is_word}
use Rattle.words_table.proofs.places.cut_words.Goals as goal

pub returns-in-Err-clause-none : goal.returns-in-Err-clause-none
returns-in-Err-clause-none c e =
    cut_words_refused (app_of c.in-Ok.command) (texts c.args.words.now) c.in-Ok.ensures c.requires
    (c.in-Err.ensures.none e)

pub unwrap-requires : goal.unwrap-requires
unwrap-requires c =
    let are = cut_words_found (app_of c.in-Ok.command) (texts c.args.words.now)
    c.in-Ok-matches_of.matches c.in-Ok.ensures c.requires c.in-Ok-matches_of.ensures.found in
    is_given c.get_str.result are.root (c.get_str.ensures ∙ are.at_root)

pub unwrap-requires-2 : goal.unwrap-requires-2
unwrap-requires-2 c =
    let are = cut_words_found (app_of c.in-Ok.command) (texts c.args.words.now)
    c.in-Ok-matches_of.matches c.in-Ok.ensures c.requires c.in-Ok-matches_of.ensures.found in
    is_given c.get_str-2.result are.view (c.get_str-2.ensures ∙ are.at_view)

pub returns-clause-found : goal.returns-clause-found
returns-clause-found c =
    let are = cut_words_found (app_of c.in-Ok.command) (texts c.args.words.now)
    c.in-Ok-matches_of.matches c.in-Ok.ensures c.requires c.in-Ok-matches_of.ensures.found in
    let root = is_word c.get_str.result c.unwrap.result are.root
    (c.get_str.ensures ∙ are.at_root) c.unwrap.ensures in
    let view = is_word c.get_str-2.result c.unwrap-2.result are.view
    (c.get_str-2.ensures ∙ are.at_view) c.unwrap-2.ensures in
    are.are ∙ ap₂ (λ (a b : Text). a ∷ b ∷ []) root view
