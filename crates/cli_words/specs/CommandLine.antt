-- The command line, as `clap` reads it.
use Rattle.std.specs.Prelude.{Some, true, codes}
use Rattle.clap.specs.Words.{App, Rule, Text, new_app, new_rule, with_rule, with_subcommand}
use Rattle.clap.specs.declared.builder.ArgAction.TheVariants.{Set, SetTrue}

-- `--NAME VALUE`, which must stand
abbrev pub needed_rule : Text → Rule
needed_rule name = record (new_rule name) { long = Some name; action = Some Set; value_names = 1; required = true }

-- `--NAME VALUE`, which may stand
abbrev pub value_rule : Text → Rule
value_rule name = record (new_rule name) { long = Some name; action = Some Set; value_names = 1 }

abbrev pub check_app : App
check_app = with_rule (new_app (codes "check")) (needed_rule (codes "order"))

-- `--NAME`, which may stand
abbrev pub flag_rule : Text → Rule
flag_rule name = record (new_rule name) { long = Some name; action = Some SetTrue }

abbrev pub decide_app : App
decide_app = with_rule (with_rule (new_app (codes "decide")) (value_rule (codes "budget"))) (flag_rule (codes "cert"))

abbrev pub verify_app : App
verify_app = new_app (codes "verify")

abbrev pub refute_app : App
refute_app = new_app (codes "refute")

abbrev pub confirm_app : App
confirm_app = new_app (codes "confirm")

abbrev pub audit_app : App
audit_app = with_rule (with_rule (with_rule (new_app (codes "audit")) (needed_rule (codes "nodes"))) (needed_rule (codes "workers"))) (value_rule (codes "budget"))

-- a word must follow the program's name; `--version` may
abbrev pub bare_app : App
bare_app = record (new_app (codes "opaq")) { top = record (new_app (codes "opaq")).top { has_version = true; arg_required_else_help = true; subcommand_required = true } }

-- `check`, `decide` and `verify`
abbrev pub verified_app : App
verified_app = with_subcommand (with_subcommand (with_subcommand bare_app check_app.top) decide_app.top) verify_app.top

-- the commands that are runs over the lines of an input
abbrev pub lines_app : App
lines_app = with_subcommand (with_subcommand verified_app refute_app.top) confirm_app.top

abbrev pub opaq_app : App
opaq_app = with_subcommand lines_app audit_app.top
