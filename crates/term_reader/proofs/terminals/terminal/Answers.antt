use Rattle.std.proofs.Common.{ap}
use Rattle.char_tokens.specs.Views.{lexeme_of, kind_of}
use Rattle.term_reader.proofs.GrammarTokens.{sees_word, sees_quoted, sees_punct, sees_variable}
use Rattle.term_reader.proofs.terminals.terminal.Goals as goal

pub returns-in_ok-seen-in-Word : goal.returns-in_ok-seen-in-Word
returns-in_ok-seen-in-Word c = sees_word c.args.pool.now c.word.new.pool c.args.variables.now (lexeme_of c.args.token) c.in_ok-seen-in-Word.seen
    c.requires.variables (ap kind_of c.in-Word.is) c.in_ok-seen-in-Word.ensures

pub returns-in_ok-seen-in-Quoted : goal.returns-in_ok-seen-in-Quoted
returns-in_ok-seen-in-Quoted c = sees_quoted c.args.pool.now c.quoted.new.pool c.args.variables.now (lexeme_of c.args.token) c.in_ok-seen-in-Quoted.seen
    c.requires.variables (ap kind_of c.in-Quoted.is) c.in_ok-seen-in-Quoted.ensures

pub returns-in-Punct : goal.returns-in-Punct
returns-in-Punct c = sees_punct c.args.pool.now c.args.variables.now (lexeme_of c.args.token) c.punct.result c.requires.pool c.requires.variables
    (ap kind_of c.in-Punct.is) (c.punct.ensures.own c.args.pool.now) c.punct.ensures.is

pub returns-in_ok-number-in-Variable : goal.returns-in_ok-number-in-Variable
returns-in_ok-number-in-Variable c =
    let e = c.in_ok-number-in-Variable.ensures in
    sees_variable c.args.pool.now c.atom.new.self c.args.variables.now c.number.new.self (lexeme_of c.args.token) c.in_ok-name-in-Variable.name
    c.in_ok-number-in-Variable.number c.requires.variables (ap kind_of c.in-Variable.is)
    c.in_ok-name-in-Variable.ensures.extends c.in_ok-name-in-Variable.ensures.valid c.in_ok-name-in-Variable.ensures.own c.in_ok-name-in-Variable.ensures.name e.number e.names e.anonymous e.indexed
