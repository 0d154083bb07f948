-- What the checker may answer.
use Rattle.std.specs.Prelude.{◌≡◌, ◌⊎◌, ℕ, ◌<◌, ◌≤◌, List, [], ◌∷◌, ◌++◌, length, slice_get, Option, Some, None, option_map, codes, IfSome, Result, Ok, Err}
use Rattle.words.specs.declared.check.Check.{Check}
use Rattle.outside.specs.Sink.{appended}
use Rattle.c_token.specs.declared.token.Token.{Token}
use Rattle.c_lexer.specs.declared.fault.LexError.{LexError}
use Rattle.c_lexer.specs.declared.fault.LexError.TheVariants as errors
use Rattle.c_lexer.specs.Cutting.{IsCutInto, bytes_of, last_line_of}
use Rattle.c_pre.specs.declared.error.PreError.{PreError}
use Rattle.c_pre.specs.declared.error.PreError.TheVariants as directives
use Rattle.c_pre.specs.Calls.{IsExpansion}
use Rattle.c_tree.specs.Statements.{Externals}
use Rattle.c_tree.specs.Files.{IsFile}
use Rattle.c_parse_expr.specs.Standing.{line_at}
use Rattle.c_parse_statements.specs.Standing.{EndsAt}
use Rattle.core_tree.specs.Trees.{TypedFile}
use Rattle.core_tree.specs.Ranges.{Limits, Cause}
use Rattle.core_tree.specs.declared.refusal.Limit.{Limit}
use Rattle.core_tree.specs.declared.refusal.Limit.TheVariants.{FileBytes, Tokens}
use Rattle.c_scope.specs.Faults.{Fault}
use Rattle.c_elab_decl.specs.Files.{elaborated}
use Rattle.c_profile.specs.Rules.{Breach, first_breach}
use Rattle.interleave.specs.Replay.{Replays}
use Rattle.goto_unwind.specs.Counts.{passed}
use Rattle.properties.specs.Properties.{properties_of}
use Rattle.options.specs.declared.options.Job.TheVariants as jobs
use Rattle.options.specs.Command.{Asked, IsCommand}
use Rattle.cbmc_top.specs.Programs.{text_behind}
use Rattle.cbmc_top.specs.Command.{Purpose, checking, listing, purpose_of, head_asked, file_read, bytes_told, IsUnread}
use Rattle.run_search.specs.Executions.{bounded_world, IsVerified}
use Rattle.run_search.specs.Clauses.{IsRefuted, IsUsedUp}
use Rattle.run_search.specs.declared.used.Used.{Used}
use Rattle.run_search.specs.Answers.{Answer, usage, read_fault, limited, refused, successful, failed, used_up, listed}
use Rattle.report.specs.Failing.{turns_of}
use Rattle.report.specs.Properties.{properties_text}
use Rattle.report.specs.Report.{Failure, IsHead, IsTold, line_of, success_text, failure_text, refusal_text, limit_text, budget_text}

abbrev pub status_of : Answer → ℕ
status_of usage = 1
status_of read_fault = 8
status_of (limited limit) = 7
status_of (refused cause) = 6
status_of (successful used) = 0
status_of (failed f) = 10
status_of (used_up used) = 5
status_of (listed properties) = 0

abbrev pub usage_text : List ℕ
usage_text = line_of (codes "usage: cbmc FILE [OPTIONS]")

-- the text of an answer to what a command asks for
abbrev pub text_of : Asked → Answer → List ℕ
text_of asked usage = usage_text
text_of asked read_fault = line_of (codes "read fault")
text_of asked (limited limit) = limit_text limit
text_of asked (refused cause) = refusal_text cause.number cause.line cause.rule
text_of asked (successful used) = success_text (head_asked asked)
text_of asked (failed f) = failure_text (head_asked asked) f
text_of asked (used_up used) = budget_text asked.budget
text_of asked (listed properties) = properties_text properties

-- the clauses that were searched and their log, where the answer rests on them
abbrev pub spent_of : Answer → Option Used
spent_of usage = None
spent_of read_fault = None
spent_of (limited limit) = None
spent_of (refused cause) = None
spent_of (successful used) = Some used
spent_of (failed f) = None
spent_of (used_up used) = Some used
spent_of (listed properties) = None

-- the name of the function with this number
abbrev pub name_in : TypedFile → ℕ → Option (List ℕ)
name_in core number = option_map (λ f. f.name) (slice_get core.functions number)

-- The failure is a run of the program that breaks a check: on its inputs and its turns, the run breaks exactly the check of
-- this class, on this line, of this function and this thread.
pub record IsFailure (limits : Limits) (core : TypedFile) (f : Failure) : Type 0 where
  pub check : Check
  pub replays : Replays (bounded_world limits core) f.inputs (turns_of f.rows) check
  pub class : f.class ≡ check.class
  pub line : f.line ≡ check.line
  pub function : name_in core check.function ≡ Some f.function
  pub thread : f.thread ≡ check.thread
  pub told : IsTold f

-- ---- What a file may be answered: the first of these stages that stops it decides, and after the last of them what is asked for.

abbrev pub refusal : ℕ → ℕ → Option ℕ → Answer
refusal n l r = refused (record { number = n; line = l; rule = r })

-- the search of its runs
abbrev pub AfterCounts : Limits → ℕ → TypedFile → Answer → Type 0
AfterCounts limits budget core usage = ⊥
AfterCounts limits budget core read_fault = ⊥
AfterCounts limits budget core (limited limit) = ⊥
AfterCounts limits budget core (refused cause) = ⊥
AfterCounts limits budget core (successful used) = IsVerified limits core × IsRefuted limits budget core used
AfterCounts limits budget core (failed f) = IsFailure limits core f
AfterCounts limits budget core (used_up used) = IsUsedUp limits budget core used
AfterCounts limits budget core (listed properties) = ⊥

-- a count passes its limit
abbrev pub AtCounts : Limits → ℕ → TypedFile → Option Limit → Answer → Type 0
AtCounts limits budget core (Some limit) answer = answer ≡ limited limit
AtCounts limits budget core None answer = AfterCounts limits budget core answer

-- a file in the profile, with its tree and its typing: it is checked, or its loops and assertions are listed
abbrev pub AfterProfile : Purpose → Externals → TypedFile → Answer → Type 0
AfterProfile (checking limits budget) tree core answer = AtCounts limits budget core (passed core limits) answer
AfterProfile listing tree core answer = answer ≡ listed (properties_of tree)

-- a rule of the profile is broken
abbrev pub AtProfile : Purpose → Externals → TypedFile → Option Breach → Answer → Type 0
AtProfile purpose tree core (Some b) answer = answer ≡ refusal 12 b.line (Some b.rule)
AtProfile purpose tree core None answer = AfterProfile purpose tree core answer

abbrev pub typing_cause : Fault → Cause
typing_cause f = record { number = 11; line = f.line; rule = Some f.rule }

-- a rule of typing is broken
abbrev pub AtTyping : Purpose → Externals → Result TypedFile Fault → Answer → Type 0
AtTyping purpose tree (Err f) answer = answer ≡ refused (typing_cause f)
AtTyping purpose tree (Ok core) answer = AtProfile purpose tree core (first_breach core) answer

-- the tokens are no file: the first external declaration that has no tree stands at the rest
pub record HasNoTree (bytes : List ℕ) (last_line : ℕ) (tokens : List Token) (answer : Answer) : Type 0 where
  pub none : (tree : Externals) → IsFile bytes tokens tree → ⊥
  pub rest : List Token
  pub ends : EndsAt bytes tokens rest
  pub on : answer ≡ refusal 10 (line_at last_line rest) None

pub record HasTree (purpose : Purpose) (bytes : List ℕ) (tokens : List Token) (answer : Answer) : Type 0 where
  pub tree : Externals
  pub is_tree : IsFile bytes tokens tree
  pub on : AtTyping purpose tree (elaborated tree) answer

abbrev pub AtTree : Purpose → List ℕ → List Token → Answer → Type 0
AtTree purpose file tokens answer = HasNoTree (text_behind file) (last_line_of file) tokens answer ⊎ HasTree purpose (text_behind file) tokens answer

-- a directive that can't be carried out, or a token too many
abbrev pub expansion_answer : PreError → Option Answer
expansion_answer (directives.Directive line) = Some (refusal 5 line None)
expansion_answer (directives.Include line) = Some (refusal 6 line None)
expansion_answer (directives.Conditional line) = Some (refusal 7 line None)
expansion_answer directives.TooMany = Some (limited Tokens)
expansion_answer directives.Memory = None

-- the first line on which the directives have a fault or there is a token too many
abbrev pub AtExpansion : Purpose → List ℕ → Result (List Token) PreError → Answer → Type 0
AtExpansion purpose file (Err error) answer = expansion_answer error ≡ Some answer
AtExpansion purpose file (Ok tokens) answer = AtTree purpose file tokens answer

pub record IsExpandedFrom (purpose : Purpose) (file : List ℕ) (cutting : List Token) (answer : Answer) : Type 0 where
  pub found : Result (List Token) PreError
  pub expanded : IsExpansion (bytes_of file) cutting found
  pub on : AtExpansion purpose file found answer

abbrev pub lexing_answer : LexError → Option Answer
lexing_answer (errors.BadByte line) = Some (refusal 1 line None)
lexing_answer (errors.Unclosed line) = Some (refusal 2 line None)
lexing_answer (errors.BadConstant line) = Some (refusal 3 line None)
lexing_answer (errors.Foreign line) = Some (refusal 4 line None)
lexing_answer errors.Memory = None

-- the file has no cutting into tokens
abbrev pub AtLexing : Purpose → List ℕ → Result (List Token) LexError → Answer → Type 0
AtLexing purpose file (Err error) answer = lexing_answer error ≡ Some answer
AtLexing purpose file (Ok cutting) answer = IsExpandedFrom purpose file cutting answer

-- the file is too long
abbrev pub IsTooLong : List ℕ → Answer → Type 0
IsTooLong file answer = (1048576 < length file) × (answer ≡ limited FileBytes)

pub record IsReadFrom (purpose : Purpose) (file : List ℕ) (answer : Answer) : Type 0 where
  pub short : length file ≤ 1048576
  pub found : Result (List Token) LexError
  pub cut : IsCutInto file found
  pub on : AtLexing purpose file found answer

-- the answer is one of a file for this purpose
abbrev pub Decides : Purpose → List ℕ → Answer → Type 0
Decides purpose file answer = IsTooLong file answer ⊎ IsReadFrom purpose file answer

-- ---- commands

-- An answer to a command on these bytes, where rose says of a name that reading it failed.
abbrev pub Allows : Asked → List ℕ → (List ℕ → Type 0) → Answer → Type 0
Allows asked bytes rose usage = ⊥
Allows asked bytes rose read_fault = (name : List ℕ) × (file_read asked ≡ Some name) × rose name
Allows asked bytes rose (limited limit) = Decides (purpose_of asked) bytes (limited limit)
Allows asked bytes rose (refused cause) = Decides (purpose_of asked) bytes (refused cause)
Allows asked bytes rose (successful used) = Decides (purpose_of asked) bytes (successful used)
Allows asked bytes rose (failed f) = Decides (purpose_of asked) bytes (failed f)
Allows asked bytes rose (used_up used) = Decides (purpose_of asked) bytes (used_up used)
Allows asked bytes rose (listed properties) = Decides (purpose_of asked) bytes (listed properties)

-- an answer that is allowed for the bytes that are told, or for some bytes, where none are
pub record IsAnswerTo (asked : Asked) (holds : List ℕ → Option (List ℕ)) (rose : List ℕ → Type 0) (answer : Answer) : Type 0 where
  pub bytes : List ℕ
  pub told : IfSome (bytes_told asked holds) (λ b. bytes ≡ b)
  pub allowed : Allows asked bytes rose answer

-- what the words ask for, if they are a command
abbrev pub Means : List (List ℕ) → Option Asked → Type 0
Means words None = (asked : Asked) → IsCommand words asked → ⊥
Means words (Some asked) = IsCommand words asked

-- an answer to these words, with its text
abbrev pub Answers : Option Asked → (List ℕ → Option (List ℕ)) → (List ℕ → Type 0) → Answer → List ℕ → Type 0
Answers None holds rose answer text = (answer ≡ usage) × (text ≡ usage_text)
Answers (Some asked) holds rose answer text = IsAnswerTo asked holds rose answer × (text ≡ text_of asked answer)

pub record Answered (words : List (List ℕ)) (holds : List ℕ → Option (List ℕ)) (rose : List ℕ → Type 0) (answer : Answer) (text : List ℕ) : Type 0 where
  pub command : Option Asked
  pub means : Means words command
  pub answers : Answers command holds rose answer text

-- no file of this name is read, whatever the words ask for
abbrev pub IsUnreadBy : List (List ℕ) → List ℕ → Type 0
IsUnreadBy words name = (asked : Asked) → IsCommand words asked → IsUnread asked name

-- reading the file of a command did not fail
abbrev pub HasNoFault : Asked → (List ℕ → Type 0) → Type 0
HasNoFault asked rose = (name : List ℕ) → file_read asked ≡ Some name → rose name → ⊥

-- the budget was used up, or a check succeeded
abbrev pub IsSearched : List (List ℕ) → ℕ → Type 0
IsSearched words status = (status ≡ 5) ⊎ ((status ≡ 0) × ((asked : Asked) × IsCommand words asked × (asked.job ≡ jobs.Check)))

-- a proper part from the front of a text was taken
abbrev pub TookPart : Option (List ℕ) → Option (List ℕ) → List ℕ → Type 0
TookPart before now text = (part : List ℕ) × (rest : List ℕ) × (text ≡ part ++ rest) × (0 < length rest) × (now ≡ appended before part)

-- the status and the text of an allowed answer to a command, and what was searched for it
pub record IsReportOn (asked : Asked) (holds : List ℕ → Option (List ℕ)) (rose : List ℕ → Type 0) (status : ℕ) (text : List ℕ) (spent : Option Used) : Type 0 where
  pub answer : Answer
  pub answered : IsAnswerTo asked holds rose answer
  pub status_is : status ≡ status_of answer
  pub text_is : text ≡ text_of asked answer
  pub spent_is : spent ≡ spent_of answer

-- the same of an answer to words
pub record Reported (words : List (List ℕ)) (holds : List ℕ → Option (List ℕ)) (rose : List ℕ → Type 0) (status : ℕ) (text : List ℕ) (spent : Option Used) : Type 0 where
  pub answer : Answer
  pub answered : Answered words holds rose answer text
  pub head : IfSome answered.command (λ asked. IsHead (head_asked asked))
  pub status_is : status ≡ status_of answer
  pub spent_is : spent ≡ spent_of answer

-- the answer comes of the search of a program's runs
abbrev pub IsOfSearch : Answer → Type 0
IsOfSearch usage = ⊥
IsOfSearch read_fault = ⊥
IsOfSearch (limited limit) = ⊥
IsOfSearch (refused cause) = ⊥
IsOfSearch (successful used) = Unit {0}
IsOfSearch (failed f) = Unit {0}
IsOfSearch (used_up used) = Unit {0}
IsOfSearch (listed properties) = ⊥

abbrev pub IsOneOf : List ℕ → ℕ → Type 0
IsOneOf [] n = ⊥
IsOneOf (m ∷ ms) n = (n ≡ m) ⊎ IsOneOf ms n
