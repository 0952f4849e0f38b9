-- Every public call has one result: two results that its contract allows are equal. `Learnt` is the contract's ensures, as a caller has it.
use mathlib.Core.Path.{refl, sym, ◌∙◌}
use Rattle.sets.proofs.both.Reads as both_call
use Rattle.sets.proofs.both.Kinds as both_call_kinds
use Rattle.sets.proofs.either.Reads as either_call
use Rattle.sets.proofs.either.Kinds as either_call_kinds
use Rattle.sets.proofs.same.Reads as same_call
use Rattle.sets.proofs.same.Kinds as same_call_kinds
use Rattle.sets.proofs.is_within.Reads as is_within_call
use Rattle.sets.proofs.is_within.Kinds as is_within_call_kinds
use Rattle.sets.proofs.byte.Reads as byte_call
use Rattle.sets.proofs.byte.Kinds as byte_call_kinds
use Rattle.sets.proofs.word.Reads as word_call
use Rattle.sets.proofs.word.Kinds as word_call_kinds
use Rattle.sets.proofs.is_zero.Reads as is_zero_call
use Rattle.sets.proofs.is_zero.Kinds as is_zero_call_kinds
use Rattle.sets.proofs.none_from.Reads as none_from_call
use Rattle.sets.proofs.none_from.Kinds as none_from_call_kinds
use Rattle.sets.proofs.has.Reads as has_call
use Rattle.sets.proofs.has.Kinds as has_call_kinds
use Rattle.sets.proofs.with.Reads as with_call
use Rattle.sets.proofs.with.Kinds as with_call_kinds
use Rattle.sets.proofs.part.Reads as part_call
use Rattle.sets.proofs.part.Kinds as part_call_kinds
use Rattle.sets.proofs.missing.Reads as missing_call
use Rattle.sets.proofs.missing.Kinds as missing_call_kinds
use Rattle.blocks.proofs.check.Reads as check_call
use Rattle.blocks.proofs.check.Kinds as check_call_kinds
use Rattle.blocks.proofs.check_right.Reads as check_right_call
use Rattle.blocks.proofs.check_right.Kinds as check_right_call_kinds
use Rattle.blocks.proofs.room_right.Reads as room_right_call
use Rattle.blocks.proofs.room_right.Kinds as room_right_call_kinds
use Rattle.blocks.proofs.first_block.Reads as first_block_call
use Rattle.blocks.proofs.first_block.Kinds as first_block_call_kinds
use Rattle.blocks.proofs.count_of.Reads as count_of_call
use Rattle.blocks.proofs.count_of.Kinds as count_of_call_kinds
use Rattle.blocks.proofs.refusal.Reads as refusal_call
use Rattle.blocks.proofs.refusal.Kinds as refusal_call_kinds
use Rattle.blocks.proofs.place.Reads as place_call
use Rattle.blocks.proofs.place.Kinds as place_call_kinds
use Rattle.model.proofs.load.Reads as load_call
use Rattle.model.proofs.load.Kinds as load_call_kinds
use Rattle.model.proofs.is_valid.Reads as is_valid_call
use Rattle.model.proofs.is_valid.Kinds as is_valid_call_kinds
use Rattle.model.proofs.unpack.Reads as unpack_call
use Rattle.model.proofs.unpack.Kinds as unpack_call_kinds
use Rattle.sets.proofs.rest.Reads as rest_call
use Rattle.sets.proofs.rest.Kinds as rest_call_kinds
use Rattle.blocks.proofs.block.Reads as block_call
use Rattle.blocks.proofs.block.Kinds as block_call_kinds
use Rattle.blocks.proofs.record.Reads as record_call
use Rattle.blocks.proofs.record.Kinds as record_call_kinds
use Rattle.blocks.proofs.record_from.Reads as record_from_call
use Rattle.blocks.proofs.record_from.Kinds as record_from_call_kinds
use Rattle.blocks.proofs.put.Reads as put_call
use Rattle.blocks.proofs.put.Kinds as put_call_kinds
use Rattle.blocks.proofs.seal.Reads as seal_call
use Rattle.blocks.proofs.seal.Kinds as seal_call_kinds
use Rattle.model.proofs.write.Reads as write_call
use Rattle.model.proofs.write.Kinds as write_call_kinds
use Rattle.model_promises.specs.One.{OneResult, OnePart, OneStore}

-- ---- tests, bytes and masks

pub both_one : OneResult 0 both_call_kinds.ps both_call_kinds.r both_call.Learnt
both_one κs a x y e p q = p ∙ sym q

pub either_one : OneResult 0 either_call_kinds.ps either_call_kinds.r either_call.Learnt
either_one κs a x y e p q = p ∙ sym q

pub same_one : OneResult 0 same_call_kinds.ps same_call_kinds.r same_call.Learnt
same_one κs a x y e p q = p ∙ sym q

pub is_within_one : OneResult 0 is_within_call_kinds.ps is_within_call_kinds.r is_within_call.Learnt
is_within_one κs a x y e p q = p ∙ sym q

pub byte_one : OneResult 1 byte_call_kinds.ps byte_call_kinds.r byte_call.Learnt
byte_one κs a x y e p q = p ∙ sym q

pub word_one : OneResult 0 word_call_kinds.ps word_call_kinds.r word_call.Learnt
word_one κs a x y e p q = p ∙ sym q

pub is_zero_one : OneResult 1 is_zero_call_kinds.ps is_zero_call_kinds.r is_zero_call.Learnt
is_zero_one κs a x y e p q = p ∙ sym q

pub none_from_one : OneResult 0 none_from_call_kinds.ps none_from_call_kinds.r none_from_call.Learnt
none_from_one κs a x y e p q = p ∙ sym q

pub has_one : OneResult 0 has_call_kinds.ps has_call_kinds.r has_call.Learnt
has_one κs a x y e p q = p ∙ sym q

pub with_one : OneResult 0 with_call_kinds.ps with_call_kinds.r with_call.Learnt
with_one κs a x y e p q = p ∙ sym q

pub part_one : OneResult 0 part_call_kinds.ps part_call_kinds.r part_call.Learnt
part_one κs a x y e p q = p ∙ sym q

pub missing_one : OneResult 0 missing_call_kinds.ps missing_call_kinds.r missing_call.Learnt
missing_one κs a x y e p q = p ∙ sym q

-- ---- files in blocks

pub check_one : OneResult 1 check_call_kinds.ps check_call_kinds.r check_call.Learnt
check_one κs a x y e p q = p ∙ sym q

pub check_right_one : OneResult 1 check_right_call_kinds.ps check_right_call_kinds.r check_right_call.Learnt
check_right_one κs a x y e p q = p ∙ sym q

pub room_right_one : OneResult 1 room_right_call_kinds.ps room_right_call_kinds.r room_right_call.Learnt
room_right_one κs a x y e p q = p ∙ sym q

pub first_block_one : OneResult 1 first_block_call_kinds.ps first_block_call_kinds.r first_block_call.Learnt
first_block_one κs a x y e p q = p ∙ sym q

pub count_of_one : OneResult 1 count_of_call_kinds.ps count_of_call_kinds.r count_of_call.Learnt
count_of_one κs a x y e p q = p ∙ sym q

pub refusal_one : OneResult 0 refusal_call_kinds.ps refusal_call_kinds.r refusal_call.Learnt
refusal_one κs a x y e p q = p ∙ sym q

pub place_one : OneResult 0 place_call_kinds.ps place_call_kinds.r place_call.Learnt
place_one κs a x y e p q = p ∙ sym q

-- ---- the file reader

pub load_one : OneResult 1 load_call_kinds.ps load_call_kinds.r load_call.Learnt
load_one κs a x y e p q = p ∙ sym q

pub is_valid_one : OneResult 0 is_valid_call_kinds.ps is_valid_call_kinds.r is_valid_call.Learnt
is_valid_one κs a x y e p q = p ∙ sym q

pub unpack_one : OneResult 1 unpack_call_kinds.ps unpack_call_kinds.r unpack_call.Learnt
unpack_one κs a x y e p q = p ∙ sym q

-- ---- a part of the caller's slice: the bytes are fixed, and the part is the caller's own

pub rest_one : OnePart 1 rest_call_kinds.ps rest_call_kinds.r (λ κs x. x.now) rest_call.Learnt
rest_one κs a x y e p q = p ∙ sym q

pub block_one : OnePart 1 block_call_kinds.ps block_call_kinds.r (λ κs x. x.now) block_call.Learnt
block_one κs a x y e p q = p ∙ sym q

pub record_one : OnePart 1 record_call_kinds.ps record_call_kinds.r (λ κs x. x.now) record_call.Learnt
record_one κs a x y e p q = p ∙ sym q

pub record_from_one : OnePart 1 record_from_call_kinds.ps record_from_call_kinds.r (λ κs x. x.now) record_from_call.Learnt
record_from_one κs a x y e p q = p ∙ sym q

-- ---- a buffer that is lent: the result and what then stands in the buffer are fixed

pub put_one : OneStore 1 put_call_kinds.ps put_call_kinds.r (λ κs e. e.0.now) put_call.Learnt
put_one κs a x y e f p q = (refl, p ∙ sym q)

pub seal_one : OneStore 1 seal_call_kinds.ps seal_call_kinds.r (λ κs e. e.0.now) seal_call.Learnt
seal_one κs a x y e f p q = (refl, p ∙ sym q)

pub write_one : OneStore 1 write_call_kinds.ps write_call_kinds.r (λ κs e. e.1.0.now) write_call.Learnt
write_one κs a x y e f p q = (p.0 ∙ sym q.0, p.1 ∙ sym q.1)
