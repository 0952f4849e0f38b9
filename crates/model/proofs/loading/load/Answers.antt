use mathlib.Core.Path.{sym, ◌∙◌}
use Rattle.model.specs.Loading.{loaded}
use Rattle.model.proofs.loading.load.Goals as goal

pub returns-then-not-length_right : goal.returns-then-not-length_right
unfolding loaded
returns-then-not-length_right c =
    let length = sym c.length_right.ensures ∙ c.if-not-length_right.true in
    rw length c.not_loaded.ensures

pub returns-in-Some : goal.returns-in-Some
unfolding loaded
returns-in-Some c =
    let length = sym c.length_right.ensures ∙ c.if-not-length_right.false in
    let found = sym c.first_bad_check.ensures ∙ c.in-Some.is in
    rw (length, found) c.not_loaded-in-Some.ensures

pub returns-in-Some-first_bad_block : goal.returns-in-Some-first_bad_block
unfolding loaded
returns-in-Some-first_bad_block c =
    let length = sym c.length_right.ensures ∙ c.if-not-length_right.false in
    let checks = sym c.first_bad_check.ensures ∙ c.in_default.is in
    let found = sym c.first_bad_block.ensures ∙ c.in-Some-first_bad_block.is in
    rw (length, checks, found) c.not_loaded-in-Some-first_bad_block.ensures

pub returns-in-Some-first_bad_record : goal.returns-in-Some-first_bad_record
unfolding loaded
returns-in-Some-first_bad_record c =
    let length = sym c.length_right.ensures ∙ c.if-not-length_right.false in
    let checks = sym c.first_bad_check.ensures ∙ c.in_default.is in
    let blocks = sym c.first_bad_block.ensures ∙ c.in_default-first_bad_block.is in
    let found = sym c.first_bad_record.ensures ∙ c.in-Some-first_bad_record.is in
    rw (length, checks, blocks, found) c.not_loaded-in-Some-first_bad_record.ensures

pub returns : goal.returns
unfolding loaded
returns c =
    let length = sym c.length_right.ensures ∙ c.if-not-length_right.false in
    let checks = sym c.first_bad_check.ensures ∙ c.in_default.is in
    let blocks = sym c.first_bad_block.ensures ∙ c.in_default-first_bad_block.is in
    let records = sym c.first_bad_record.ensures ∙ c.in_default-first_bad_record.is in
    rw (length, checks, blocks, records) c.across_or.ensures
