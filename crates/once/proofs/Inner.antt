-- The functions on small values, and the turns, that the entry points are made of; and the numbers of answers and refusals.
use mathlib.Core.Path.{sym, ap, ◌∙◌}
use Rattle.rules.specs.Words.{Out}
use Rattle.table.proofs.Refusal.unless.Kinds as table-unless-kinds
use Rattle.table.proofs.Refusal.unless.Reads as table-unless-reads
use Rattle.lists.proofs.within.Kinds as lists-within-kinds
use Rattle.lists.proofs.within.Reads as lists-within-reads
use Rattle.lists.proofs.length_fine.Kinds as lists-length-fine-kinds
use Rattle.lists.proofs.length_fine.Reads as lists-length-fine-reads
use Rattle.lists.proofs.exist.Kinds as lists-exist-kinds
use Rattle.lists.proofs.exist.Reads as lists-exist-reads
use Rattle.lists.proofs.apart.Kinds as lists-apart-kinds
use Rattle.lists.proofs.apart.Reads as lists-apart-reads
use Rattle.lists.proofs.list_fine.Kinds as lists-list-fine-kinds
use Rattle.lists.proofs.list_fine.Reads as lists-list-fine-reads
use Rattle.lists.proofs.in_list.Kinds as lists-in-list-kinds
use Rattle.lists.proofs.in_list.Reads as lists-in-list-reads
use Rattle.lists.proofs.all_linked.Kinds as lists-all-linked-kinds
use Rattle.lists.proofs.all_linked.Reads as lists-all-linked-reads
use Rattle.lists.proofs.infos_known.Kinds as lists-infos-known-kinds
use Rattle.lists.proofs.infos_known.Reads as lists-infos-known-reads
use Rattle.lists.proofs.stamps_known.Kinds as lists-stamps-known-kinds
use Rattle.lists.proofs.stamps_known.Reads as lists-stamps-known-reads
use Rattle.lists.proofs.places.Kinds as lists-places-kinds
use Rattle.lists.proofs.places.Reads as lists-places-reads
use Rattle.access.proofs.change_of.Kinds as access-change-of-kinds
use Rattle.access.proofs.change_of.Reads as access-change-of-reads
use Rattle.access.proofs.access_of.Kinds as access-access-of-kinds
use Rattle.access.proofs.access_of.Reads as access-access-of-reads
use Rattle.access.proofs.record_of.Kinds as access-record-of-kinds
use Rattle.access.proofs.record_of.Reads as access-record-of-reads
use Rattle.access.proofs.is_idle.Kinds as access-is-idle-kinds
use Rattle.access.proofs.is_idle.Reads as access-is-idle-reads
use Rattle.perform.proofs.seen_by.Kinds as perform-seen-by-kinds
use Rattle.perform.proofs.seen_by.Reads as perform-seen-by-reads
use Rattle.perform.proofs.record_by.Kinds as perform-record-by-kinds
use Rattle.perform.proofs.record_by.Reads as perform-record-by-reads
use Rattle.perform.proofs.change_by.Kinds as perform-change-by-kinds
use Rattle.perform.proofs.change_by.Reads as perform-change-by-reads
use Rattle.resume.proofs.resume.Kinds as resume-resume-kinds
use Rattle.resume.proofs.resume.Reads as resume-resume-reads
use Rattle.refuse.proofs.refusal.Kinds as refuse-refusal-kinds
use Rattle.refuse.proofs.refusal.Reads as refuse-refusal-reads
use Rattle.refuse.proofs.linked.Kinds as refuse-linked-kinds
use Rattle.refuse.proofs.linked.Reads as refuse-linked-reads
use Rattle.begin.proofs.next_number.Kinds as begin-next-number-kinds
use Rattle.begin.proofs.next_number.Reads as begin-next-number-reads
use Rattle.begin.proofs.start.Kinds as begin-start-kinds
use Rattle.begin.proofs.start.Reads as begin-start-reads
use Rattle.act.proofs.act.Kinds as act-act-kinds
use Rattle.act.proofs.act.Reads as act-act-reads
use Rattle.turns.proofs.turn_on.Kinds as turns-turn-on-kinds
use Rattle.turns.proofs.turn_on.Reads as turns-turn-on-reads
use Rattle.turns.proofs.turn_in.Kinds as turns-turn-in-kinds
use Rattle.turns.proofs.turn_in.Reads as turns-turn-in-reads
use Rattle.answers.proofs.refusal_number.Kinds as answers-refusal-number-kinds
use Rattle.answers.proofs.refusal_number.Reads as answers-refusal-number-reads
use Rattle.answers.proofs.number_of.Kinds as answers-number-of-kinds
use Rattle.answers.proofs.number_of.Reads as answers-number-of-reads
use Rattle.once.proofs.Once.{Once, OnceLent}

pub table_unless : Once 0 table-unless-kinds.ps table-unless-kinds.r table-unless-reads.Post
table_unless κs a o p s t e f = e ∙ sym f

pub lists_within : Once 0 lists-within-kinds.ps lists-within-kinds.r lists-within-reads.Post
lists_within κs a o p s t e f = e ∙ sym f

pub lists_length_fine : Once 0 lists-length-fine-kinds.ps lists-length-fine-kinds.r lists-length-fine-reads.Post
lists_length_fine κs a o p s t e f = e ∙ sym f

pub lists_exist : Once 0 lists-exist-kinds.ps lists-exist-kinds.r lists-exist-reads.Post
lists_exist κs a o p s t e f = e ∙ sym f

pub lists_apart : Once 0 lists-apart-kinds.ps lists-apart-kinds.r lists-apart-reads.Post
lists_apart κs a o p s t e f = e ∙ sym f

pub lists_list_fine : Once 0 lists-list-fine-kinds.ps lists-list-fine-kinds.r lists-list-fine-reads.Post
lists_list_fine κs a o p s t e f = e ∙ sym f

pub lists_in_list : Once 0 lists-in-list-kinds.ps lists-in-list-kinds.r lists-in-list-reads.Post
lists_in_list κs a o p s t e f = e ∙ sym f

pub lists_all_linked : Once 0 lists-all-linked-kinds.ps lists-all-linked-kinds.r lists-all-linked-reads.Post
lists_all_linked κs a o p s t e f = e ∙ sym f

pub lists_infos_known : Once 0 lists-infos-known-kinds.ps lists-infos-known-kinds.r lists-infos-known-reads.Post
lists_infos_known κs a o p s t e f = e ∙ sym f

pub lists_stamps_known : Once 0 lists-stamps-known-kinds.ps lists-stamps-known-kinds.r lists-stamps-known-reads.Post
lists_stamps_known κs a o p s t e f = e ∙ sym f

pub lists_places : Once 0 lists-places-kinds.ps lists-places-kinds.r lists-places-reads.Post
lists_places κs a o p s t e f = e ∙ sym f

pub access_change_of : Once 0 access-change-of-kinds.ps access-change-of-kinds.r access-change-of-reads.Post
access_change_of κs a o p s t e f = e ∙ sym f

pub access_access_of : Once 0 access-access-of-kinds.ps access-access-of-kinds.r access-access-of-reads.Post
access_access_of κs a o p s t e f = e ∙ sym f

pub access_record_of : Once 0 access-record-of-kinds.ps access-record-of-kinds.r access-record-of-reads.Post
access_record_of κs a o p s t e f = e ∙ sym f

pub access_is_idle : Once 0 access-is-idle-kinds.ps access-is-idle-kinds.r access-is-idle-reads.Post
access_is_idle κs a o p s t e f = e ∙ sym f

pub perform_seen_by : Once 0 perform-seen-by-kinds.ps perform-seen-by-kinds.r perform-seen-by-reads.Post
perform_seen_by κs a o p s t e f = e ∙ sym f

pub perform_record_by : Once 0 perform-record-by-kinds.ps perform-record-by-kinds.r perform-record-by-reads.Post
perform_record_by κs a o p s t e f = e ∙ sym f

pub perform_change_by : Once 0 perform-change-by-kinds.ps perform-change-by-kinds.r perform-change-by-reads.Post
perform_change_by κs a o p s t e f = e ∙ sym f

pub resume_resume : Once 0 resume-resume-kinds.ps resume-resume-kinds.r resume-resume-reads.Post
resume_resume κs a o p s t e f = e ∙ sym f

pub refuse_refusal : Once 0 refuse-refusal-kinds.ps refuse-refusal-kinds.r refuse-refusal-reads.Post
refuse_refusal κs a o p s t e f = e ∙ sym f

pub refuse_linked : Once 0 refuse-linked-kinds.ps refuse-linked-kinds.r refuse-linked-reads.Post
refuse_linked κs a o p s t e f = e ∙ sym f

pub begin_next_number : Once 0 begin-next-number-kinds.ps begin-next-number-kinds.r begin-next-number-reads.Post
begin_next_number κs a o p s t e f = e ∙ sym f

pub begin_start : Once 0 begin-start-kinds.ps begin-start-kinds.r begin-start-reads.Post
begin_start κs a o p s t e f = e ∙ sym f

pub act_act : Once 0 act-act-kinds.ps act-act-kinds.r act-act-reads.Post
act_act κs a o p s t e f = e ∙ sym f

pub turns_turn_on : Once 1 turns-turn-on-kinds.ps turns-turn-on-kinds.r turns-turn-on-reads.Post
turns_turn_on κs a o p s t e f = ap (λ (x : Out). x.answer) (sym e ∙ f)

pub turns_turn_on_lent : OnceLent 1 turns-turn-on-kinds.ps turns-turn-on-kinds.r turns-turn-on-reads.Post (λ κs s. s.0.now)
turns_turn_on_lent κs a o p s t e f = ap (λ (x : Out). x.m) (sym e ∙ f)

pub turns_turn_in : Once 0 turns-turn-in-kinds.ps turns-turn-in-kinds.r turns-turn-in-reads.Post
turns_turn_in κs a o p s t e f = e ∙ sym f

pub answers_refusal_number : Once 0 answers-refusal-number-kinds.ps answers-refusal-number-kinds.r answers-refusal-number-reads.Post
answers_refusal_number κs a o p s t e f = e ∙ sym f

pub answers_number_of : Once 0 answers-number-of-kinds.ps answers-number-of-kinds.r answers-number-of-reads.Post
answers_number_of κs a o p s t e f = e ∙ sym f
