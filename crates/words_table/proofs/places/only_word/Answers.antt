use Rattle.std.proofs.Common.{◌∙◌, [], ◌∷◌, ap}
use Rattle.clap.specs.Simple.{app_of}
use Rattle.clap.specs.Walk.{Text}
use Rattle.words_table.specs.Commands.{texts}
use Rattle.words_table.proofs.Given.{is_given, is_word}
use Rattle.words_table.proofs.OnlyWord.{only_word_found, only_word_refused}
use Rattle.words_table.proofs.places.only_word.Goals as goal

pub returns-in-Err-clause-none : goal.returns-in-Err-clause-none
returns-in-Err-clause-none c e =
    only_word_refused (app_of c.in-Ok.command) (texts c.args.words.now) c.in-Ok.ensures c.requires
    (c.in-Err.ensures.none e)

pub unwrap-requires : goal.unwrap-requires
unwrap-requires c =
    let only = only_word_found (app_of c.in-Ok.command) (texts c.args.words.now)
    c.in-Ok-matches_of.matches c.in-Ok.ensures c.requires c.in-Ok-matches_of.ensures.found in
    is_given c.get_str.result only.word (c.get_str.ensures ∙ only.at_word)

pub returns-clause-found : goal.returns-clause-found
returns-clause-found c =
    let only = only_word_found (app_of c.in-Ok.command) (texts c.args.words.now)
    c.in-Ok-matches_of.matches c.in-Ok.ensures c.requires c.in-Ok-matches_of.ensures.found in
    only.are ∙ ap (λ (word : Text). word ∷ [])
    (is_word c.get_str.result c.unwrap.result only.word (c.get_str.ensures ∙ only.at_word)
    c.unwrap.ensures)
