-- The runner and what it is made of: one result, and one content of the buffer that is lent to be written.
use Prim.Native.Nat.{ℕ}
use mathlib.Core.Path.{◌≡◌, refl, sym, ◌∙◌}
use mathlib.Core.List.{List}
use Rattle.text.specs.declared.Page.{Page}
use Rattle.text.specs.Put.{Put}
use Rattle.text.specs.Wrote.{Wrote}
use Rattle.play.specs.declared.Played.{Played}
use Rattle.play.specs.Play.{Plays}
use Rattle.rules.specs.Words.{Machine}
use Rattle.hand.proofs.number_of.Kinds as hand-number-of-kinds
use Rattle.hand.proofs.number_of.Reads as hand-number-of-reads
use Rattle.hand.proofs.turn.Kinds as hand-turn-kinds
use Rattle.hand.proofs.turn.Reads as hand-turn-reads
use Rattle.text.proofs.Page.row.Kinds as text-row-kinds
use Rattle.text.proofs.Page.row.Reads as text-row-reads
use Rattle.text.proofs.Page.lettered.Kinds as text-lettered-kinds
use Rattle.text.proofs.Page.lettered.Reads as text-lettered-reads
use Rattle.lines.proofs.put_answer.Kinds as lines-put-answer-kinds
use Rattle.lines.proofs.put_answer.Reads as lines-put-answer-reads
use Rattle.lines.proofs.put_record.Kinds as lines-put-record-kinds
use Rattle.lines.proofs.put_record.Reads as lines-put-record-reads
use Rattle.lines.proofs.put_tally.Kinds as lines-put-tally-kinds
use Rattle.lines.proofs.put_tally.Reads as lines-put-tally-reads
use Rattle.lines.proofs.put_refusal.Kinds as lines-put-refusal-kinds
use Rattle.lines.proofs.put_refusal.Reads as lines-put-refusal-reads
use Rattle.play.proofs.play.Kinds as play-play-kinds
use Rattle.play.proofs.play.Reads as play-play-reads
use Rattle.runner.proofs.run.Kinds as runner-run-kinds
use Rattle.runner.proofs.run.Reads as runner-run-reads
use Rattle.runner.proofs.room_of.Kinds as runner-room-of-kinds
use Rattle.runner.proofs.room_of.Reads as runner-room-of-reads
use Rattle.sanding.proofs.sanding_refusal.Kinds as sanding-refusal-kinds
use Rattle.sanding.proofs.sanding_refusal.Reads as sanding-refusal-reads
use Rattle.sanding.proofs.sanding_room.Kinds as sanding-room-kinds
use Rattle.sanding.proofs.sanding_room.Reads as sanding-room-reads
use Rattle.sanding.proofs.sanding_run.Kinds as sanding-run-kinds
use Rattle.sanding.proofs.sanding_run.Reads as sanding-run-reads
use Rattle.once.proofs.Once.{Once, OnceLent}

-- a text put into a buffer leaves one place after it, and one buffer
put_once : {old new also text : List ℕ} {at r q : ℕ} → Put old at text new r → Put old at text also q → r ≡ q
put_once a b = a.next ∙ sym b.next

put_lent : {old new also text : List ℕ} {at r q : ℕ} → Put old at text new r → Put old at text also q → new ≡ also
put_lent a b = a.held ∙ sym b.held

-- what a page holds: its buffer, by the name of its loan, its position, and the bytes of the buffer; a text written on it leaves one of each
abbrev pub held : Page → ℕ × ℕ × List ℕ
held p = (p.out.ghost_name, p.at, p.out.now)

wrote_lent : {old new also : Page} {text : List ℕ} → Wrote old text new → Wrote old text also → held new ≡ held also
wrote_lent a b = λ k. ((a.same ∙ sym b.same) k, put_once a.put b.put k, put_lent a.put b.put k)

-- events played leave one machine, tally and place
plays_once : {m : Machine} {es old new also : List ℕ} {count : ℕ} {o p : Played} → Plays m es count old new o → Plays m es count old also p → o ≡ p
plays_once {o = o} {p = p} a b =
    let machine : o.m ≡ p.m = a.machine ∙ sym b.machine in
    let tally : o.tally ≡ p.tally = a.tally ∙ sym b.tally in
    let next : o.next ≡ p.next = put_once a.lines b.lines in
    λ k. record { m = machine k; tally = tally k; next = next k }

pub hand_number_of : Once 0 hand-number-of-kinds.ps hand-number-of-kinds.r hand-number-of-reads.Post
hand_number_of κs a o p s t e f = e ∙ sym f

pub hand_turn : Once 0 hand-turn-kinds.ps hand-turn-kinds.r hand-turn-reads.Post
hand_turn κs a o p s t e f = e ∙ sym f

-- three lifetimes: the page, its buffer and the numbers are lent
pub text_row : Once 3 text-row-kinds.ps text-row-kinds.r text-row-reads.Post
text_row κs a o p s t e f = refl

pub text_row_lent : OnceLent 3 text-row-kinds.ps text-row-kinds.r text-row-reads.Post (λ κs s. held s.0.now)
text_row_lent κs a o p s t e f = wrote_lent e f

pub text_lettered : Once 3 text-lettered-kinds.ps text-lettered-kinds.r text-lettered-reads.Post
text_lettered κs a o p s t e f = refl

pub text_lettered_lent : OnceLent 3 text-lettered-kinds.ps text-lettered-kinds.r text-lettered-reads.Post (λ κs s. held s.0.now)
text_lettered_lent κs a o p s t e f = wrote_lent e f

-- two lifetimes: the page and its buffer are lent
pub lines_put_answer : Once 2 lines-put-answer-kinds.ps lines-put-answer-kinds.r lines-put-answer-reads.Post
lines_put_answer κs a o p s t e f = refl

pub lines_put_answer_lent : OnceLent 2 lines-put-answer-kinds.ps lines-put-answer-kinds.r lines-put-answer-reads.Post (λ κs s. held s.0.now)
lines_put_answer_lent κs a o p s t e f = wrote_lent e.0 f.0

pub lines_put_record : Once 2 lines-put-record-kinds.ps lines-put-record-kinds.r lines-put-record-reads.Post
lines_put_record κs a o p s t e f = refl

pub lines_put_record_lent : OnceLent 2 lines-put-record-kinds.ps lines-put-record-kinds.r lines-put-record-reads.Post (λ κs s. held s.0.now)
lines_put_record_lent κs a o p s t e f = wrote_lent e.0 f.0

pub lines_put_tally : Once 2 lines-put-tally-kinds.ps lines-put-tally-kinds.r lines-put-tally-reads.Post
lines_put_tally κs a o p s t e f = refl

pub lines_put_tally_lent : OnceLent 2 lines-put-tally-kinds.ps lines-put-tally-kinds.r lines-put-tally-reads.Post (λ κs s. held s.0.now)
lines_put_tally_lent κs a o p s t e f = wrote_lent e f

pub lines_put_refusal : Once 2 lines-put-refusal-kinds.ps lines-put-refusal-kinds.r lines-put-refusal-reads.Post
lines_put_refusal κs a o p s t e f = refl

pub lines_put_refusal_lent : OnceLent 2 lines-put-refusal-kinds.ps lines-put-refusal-kinds.r lines-put-refusal-reads.Post (λ κs s. held s.0.now)
lines_put_refusal_lent κs a o p s t e f = wrote_lent e f

-- two lifetimes: the bytes read and the buffer are lent
pub play_play : Once 2 play-play-kinds.ps play-play-kinds.r play-play-reads.Post
play_play κs a o p s t e f = plays_once e f

pub play_play_lent : OnceLent 2 play-play-kinds.ps play-play-kinds.r play-play-reads.Post (λ κs s. s.1.1.1.0.now)
play_play_lent κs a o p s t e f = put_lent e.lines f.lines

pub runner_room_of : Once 0 runner-room-of-kinds.ps runner-room-of-kinds.r runner-room-of-reads.Post
runner_room_of κs a o p s t e f = e ∙ sym f

pub runner_run : Once 2 runner-run-kinds.ps runner-run-kinds.r runner-run-reads.Post
runner_run κs a o p s t e f = e.0 ∙ sym f.0

pub runner_run_lent : OnceLent 2 runner-run-kinds.ps runner-run-kinds.r runner-run-reads.Post (λ κs s. s.1.0.now)
runner_run_lent κs a o p s t e f = e.1 ∙ sym f.1

-- what the static library exports
pub sanding_refusal : Once 1 sanding-refusal-kinds.ps sanding-refusal-kinds.r sanding-refusal-reads.Post
sanding_refusal κs a o p s t e f = e ∙ sym f

pub sanding_room : Once 1 sanding-room-kinds.ps sanding-room-kinds.r sanding-room-reads.Post
sanding_room κs a o p s t e f = e ∙ sym f

pub sanding_run : Once 2 sanding-run-kinds.ps sanding-run-kinds.r sanding-run-reads.Post
sanding_run κs a o p s t e f = e.0 ∙ sym f.0

pub sanding_run_lent : OnceLent 2 sanding-run-kinds.ps sanding-run-kinds.r sanding-run-reads.Post (λ κs s. s.1.0.now)
sanding_run_lent κs a o p s t e f = e.1 ∙ sym f.1
