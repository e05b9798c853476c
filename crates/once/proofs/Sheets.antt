-- Run sheets: a byte, two bytes, an event and all events; the reader's door; the layout and the initial values; and the writer, which also
-- leaves one content of the lent buffer. The reader that holds the lent event bytes is in Walked.antt.
use mathlib.Core.Path.{sym, ◌∙◌}
use Rattle.event.proofs.byte_at.Kinds as event-byte-at-kinds
use Rattle.event.proofs.byte_at.Reads as event-byte-at-reads
use Rattle.event.proofs.pair.Kinds as event-pair-kinds
use Rattle.event.proofs.pair.Reads as event-pair-reads
use Rattle.event.proofs.event_at.Kinds as event-event-at-kinds
use Rattle.event.proofs.event_at.Reads as event-event-at-reads
use Rattle.event.proofs.events_fine.Kinds as event-events-fine-kinds
use Rattle.event.proofs.events_fine.Reads as event-events-fine-reads
use Rattle.reader.proofs.event.Kinds as reader-event-kinds
use Rattle.reader.proofs.event.Reads as reader-event-reads
use Rattle.sheet.proofs.counts_fine.Kinds as sheet-counts-fine-kinds
use Rattle.sheet.proofs.counts_fine.Reads as sheet-counts-fine-reads
use Rattle.sheet.proofs.parts_size.Kinds as sheet-parts-size-kinds
use Rattle.sheet.proofs.parts_size.Reads as sheet-parts-size-reads
use Rattle.sheet.proofs.layout_of.Kinds as sheet-layout-of-kinds
use Rattle.sheet.proofs.layout_of.Reads as sheet-layout-of-reads
use Rattle.sheet.proofs.values.Kinds as sheet-values-kinds
use Rattle.sheet.proofs.values.Reads as sheet-values-reads
use Rattle.writer.proofs.write.Kinds as writer-write-kinds
use Rattle.writer.proofs.write.Reads as writer-write-reads
use Rattle.once.proofs.Once.{Once, OnceLent}

pub event_byte_at : Once 1 event-byte-at-kinds.ps event-byte-at-kinds.r event-byte-at-reads.Post
event_byte_at κs a o p s t e f = e ∙ sym f

pub event_pair : Once 0 event-pair-kinds.ps event-pair-kinds.r event-pair-reads.Post
event_pair κs a o p s t e f = e ∙ sym f

pub event_event_at : Once 1 event-event-at-kinds.ps event-event-at-kinds.r event-event-at-reads.Post
event_event_at κs a o p s t e f = e ∙ sym f

pub event_events_fine : Once 1 event-events-fine-kinds.ps event-events-fine-kinds.r event-events-fine-reads.Post
event_events_fine κs a o p s t e f = e ∙ sym f

pub reader_event : Once 1 reader-event-kinds.ps reader-event-kinds.r reader-event-reads.Post
reader_event κs a o p s t e f = e ∙ sym f

pub sheet_counts_fine : Once 0 sheet-counts-fine-kinds.ps sheet-counts-fine-kinds.r sheet-counts-fine-reads.Post
sheet_counts_fine κs a o p s t e f = e ∙ sym f

pub sheet_parts_size : Once 0 sheet-parts-size-kinds.ps sheet-parts-size-kinds.r sheet-parts-size-reads.Post
sheet_parts_size κs a o p s t e f = e.0 ∙ sym f.0

pub sheet_layout_of : Once 1 sheet-layout-of-kinds.ps sheet-layout-of-kinds.r sheet-layout-of-reads.Post
sheet_layout_of κs a o p s t e f = e ∙ sym f

pub sheet_values : Once 1 sheet-values-kinds.ps sheet-values-kinds.r sheet-values-reads.Post
sheet_values κs a o p s t e f = e ∙ sym f

-- three lifetimes: the values, the events and the buffer are lent
pub writer_write : Once 3 writer-write-kinds.ps writer-write-kinds.r writer-write-reads.Post
writer_write κs a o p s t e f = e.0 ∙ sym f.0

-- the buffer is the sixth parameter
pub writer_write_lent : OnceLent 3 writer-write-kinds.ps writer-write-kinds.r writer-write-reads.Post (λ κs s. s.1.1.1.1.1.0.now)
writer_write_lent κs a o p s t e f = e.1 ∙ sym f.1
